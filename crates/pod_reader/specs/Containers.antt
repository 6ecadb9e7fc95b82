-- The ports that the containers of a pod name (Kubernetes core v1: ContainerPort; the form of a name is this project's
-- own).
use Rattle.std.specs.Prelude.{ℕ, List, [], ◌∷◌, ◌++◌, Bool, not, ◌&&◌, ◌||◌, Option, Some, None, is_some, option_and_then, codes, if◌then◌else◌}
use Rattle.std.specs.List.{filter_map}
use Rattle.serde_json.specs.Data.{Data}
use Rattle.cl_types.specs.declared.service.NamedPort.{NamedPort}
use Rattle.cl_types.specs.declared.service.Proto.{Proto}
use Rattle.json_fields.specs.declared.refusal.ReadRefusal.{ReadRefusal}
use Rattle.json_fields.specs.declared.refusal.ReadRefusal.TheVariants.{BadPort}
use Rattle.json_fields.specs.Fields.{inner}
use Rattle.json_fields.specs.Shapes.{unless, in_field, object_faults, list_faults, items_of, number_within, text_of}
use Rattle.policy_parts.specs.PortWords.{is_port_name, protocol_of}
use Rattle.pod_reader.specs.PortOrder.{in_order}

-- ---- one entry

abbrev pub where_port_name : List ℕ → Option (List ℕ)
where_port_name text = if is_port_name text then Some text else None

unfoldable pub entry_name : Data → Option (List ℕ)
entry_name d = option_and_then where_port_name (text_of (inner (codes "name") (Some d)))

unfoldable pub entry_number : Data → Option ℕ
entry_number d = number_within 1 65535 (inner (codes "containerPort") (Some d))

abbrev pub named : Option (List ℕ) → Option Proto → Option ℕ → Option NamedPort
named (Some name) (Some proto) (Some port) = Some (record { name = name; proto = proto; port = port })
named _ _ _ = None

-- the port that an entry names, where it has no fault
unfoldable pub named_port : Data → Option NamedPort
named_port d = named (entry_name d) (protocol_of d) (entry_number d)

unfoldable pub has_name : Data → Bool
has_name d = is_some (inner (codes "name") (Some d))

-- an entry without a name isn't looked at
unfoldable pub is_entry : Data → Bool
is_entry d = not (has_name d) || (is_some (entry_name d) && (is_some (protocol_of d) && is_some (entry_number d)))

unfoldable pub entry_faults : Data → List ReadRefusal
entry_faults d = object_faults (Some d) ++ unless (is_entry d) BadPort

-- ---- containers

unfoldable pub entries_faults : Data → List ReadRefusal
entries_faults container = in_field (codes "ports") (list_faults entry_faults) (Some container)

unfoldable pub container_faults : Data → List ReadRefusal
container_faults d = object_faults (Some d) ++ entries_faults d

unfoldable pub containers_faults : Option Data → List ReadRefusal
containers_faults spec = in_field (codes "containers") (list_faults container_faults) spec

unfoldable pub entries_of : Data → List Data
entries_of container = items_of (inner (codes "ports") (Some container))

abbrev pub ports_among : List Data → List NamedPort
ports_among entries = filter_map named_port entries

-- the ports that containers name, in order
abbrev pub ports_in : List Data → List NamedPort
ports_in [] = []
ports_in (container ∷ containers) = ports_among (entries_of container) ++ ports_in containers

unfoldable pub named_ports : Option Data → List NamedPort
named_ports spec = ports_in (items_of (inner (codes "containers") spec))

-- the named ports of a pod
unfoldable pub pod_ports : Option Data → List NamedPort
pod_ports spec = in_order (named_ports spec)
