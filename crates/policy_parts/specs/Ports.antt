-- The ports of a rule (Kubernetes NetworkPolicy v1: NetworkPolicyPort; the form of a name is this project's own).
use Rattle.std.specs.Prelude.{ℕ, List, [], ◌∷◌, ◌++◌, length, Bool, not, ◌&&◌, ◌||◌, nat_le, Option, Some, None, is_some, option_map, option_and_then, codes, if◌then◌else◌}
use Rattle.std.specs.Char.{is_ascii_lowercase}
use Rattle.std.specs.List.{list_any, filter_map}
use Rattle.serde_json.specs.Data.{Data}
use Rattle.serde_json.specs.Find.{as_str}
use Rattle.cl_types.specs.declared.service.PortName.{PortName}
use Rattle.cl_types.specs.declared.service.Proto.{Proto}
use Rattle.cl_types.specs.declared.service.Proto.TheVariants.{Tcp, Udp, Sctp}
use Rattle.cl_types.specs.Service.{PortRange}
use Rattle.cl_types.specs.Text.{text_eq}
use Rattle.label_select.specs.Forms.{is_namespace_name}
use Rattle.json_fields.specs.declared.refusal.ReadRefusal.{ReadRefusal}
use Rattle.json_fields.specs.declared.refusal.ReadRefusal.TheVariants.{BadPort}
use Rattle.json_fields.specs.Fields.{inner}
use Rattle.json_fields.specs.Shapes.{in_field, object_faults, list_faults, unless, items_of, number_within, text_of}
use Rattle.json_fields.specs.Unknown.{other_faults}

-- ---- the protocol

abbrev pub protocol_named : List ℕ → Option Proto
protocol_named text =
    if text_eq text (codes "TCP") then Some Tcp
    else (if text_eq text (codes "UDP") then Some Udp else (if text_eq text (codes "SCTP") then Some Sctp else None))

-- TCP where none is given
abbrev pub protocol_in : Option Data → Option Proto
protocol_in None = Some Tcp
protocol_in (Some d) = option_and_then protocol_named (as_str d)

-- the protocol of an entry, where it is one of a rule
unfoldable pub protocol_of : Data → Option Proto
protocol_of d = protocol_in (inner (codes "protocol") (Some d))

-- ---- by number

-- a port from lo on
unfoldable pub port_number : ℕ → Data → Option ℕ
port_number lo d = number_within lo 65535 (Some d)

-- up to the last port, where one is given
abbrev pub service_to : Proto → ℕ → Option Data → Option PortRange
service_to proto lo None = Some (record { proto = proto; lo = lo; hi = lo })
service_to proto lo (Some last) = option_map (λ hi. record { proto = proto; lo = lo; hi = hi }) (port_number lo last)

-- all ports where none is given
abbrev pub service_with : Proto → Option Data → Option Data → Option PortRange
service_with proto None None = Some (record { proto = proto; lo = 0; hi = 65535 })
service_with proto None (Some last) = None
service_with proto (Some port) last = option_and_then (λ lo. service_to proto lo last) (port_number 1 port)

unfoldable pub service_for : Proto → Data → Option PortRange
service_for proto d = service_with proto (inner (codes "port") (Some d)) (inner (codes "endPort") (Some d))

-- the ports of an entry by number, where it has no fault
unfoldable pub service_of : Data → Option PortRange
service_of d = option_and_then (λ proto. service_for proto d) (protocol_of d)

-- ---- by name

abbrev pub has_letter : List ℕ → Bool
has_letter text = list_any is_ascii_lowercase text

-- at most 15 of `a` to `z`, `0` to `9` and `-`, a letter among them, with a letter or digit at both ends
unfoldable pub is_port_name : List ℕ → Bool
is_port_name text = nat_le (length text) 15 && (is_namespace_name text && has_letter text)

-- a name goes with no last port
abbrev pub name_with : Option (List ℕ) → Option Data → Option (List ℕ)
name_with None last = None
name_with (Some name) last = if is_port_name name && not (is_some last) then Some name else None

unfoldable pub name_from : Data → Option (List ℕ)
name_from d = name_with (text_of (inner (codes "port") (Some d))) (inner (codes "endPort") (Some d))

abbrev pub named : Proto → Option (List ℕ) → Option PortName
named proto None = None
named proto (Some name) = Some (record { name = name; proto = proto })

-- the port of an entry by name, where it has no fault
unfoldable pub port_name_of : Data → Option PortName
port_name_of d = option_and_then (λ proto. named proto (name_from d)) (protocol_of d)

-- ---- an entry

-- an entry by number or by name
unfoldable pub is_port : Data → Bool
is_port d = is_some (service_of d) || (is_some (protocol_of d) && is_some (name_from d))

unfoldable pub port_form_faults : Data → List ReadRefusal
port_form_faults d = unless (is_port d) BadPort

unfoldable pub port_names_faults : Data → List ReadRefusal
port_names_faults d = other_faults (codes "protocol" ∷ codes "port" ∷ codes "endPort" ∷ []) (Some d)

unfoldable pub port_faults : Data → List ReadRefusal
port_faults d = object_faults (Some d) ++ port_names_faults d ++ port_form_faults d

-- ---- the ports of a rule

unfoldable pub ports_faults : Data → List ReadRefusal
ports_faults rule = in_field (codes "ports") (list_faults port_faults) (Some rule)

unfoldable pub port_items : Data → List Data
port_items rule = items_of (inner (codes "ports") (Some rule))

-- a rule without an entry is for all traffic
abbrev pub services_value : List Data → Option (List PortRange)
services_value [] = None
services_value (d ∷ ds) = Some (filter_map service_of (d ∷ ds))

abbrev pub names_value : List Data → List PortName
names_value ds = filter_map port_name_of ds
