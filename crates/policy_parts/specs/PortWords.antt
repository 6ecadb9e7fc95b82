-- The words of ports: protocols, and names (Kubernetes: protocols of ports; the form of a name is this project's own).
use Rattle.std.specs.Prelude.{ℕ, List, length, Bool, ◌&&◌, nat_le, Option, Some, None, option_and_then, codes, if◌then◌else◌}
use Rattle.std.specs.Char.{is_ascii_lowercase}
use Rattle.std.specs.List.{list_any}
use Rattle.serde_json.specs.Data.{Data}
use Rattle.serde_json.specs.Find.{as_str}
use Rattle.cl_types.specs.declared.service.Proto.{Proto}
use Rattle.cl_types.specs.declared.service.Proto.TheVariants.{Tcp, Udp, Sctp}
use Rattle.cl_types.specs.Text.{text_eq}
use Rattle.label_select.specs.Forms.{is_namespace_name}
use Rattle.json_fields.specs.Fields.{inner}

abbrev pub protocol_named : List ℕ → Option Proto
protocol_named text =
    if text_eq text (codes "TCP") then Some Tcp
    else (if text_eq text (codes "UDP") then Some Udp else (if text_eq text (codes "SCTP") then Some Sctp else None))

-- TCP where none is given
abbrev pub protocol_in : Option Data → Option Proto
protocol_in None = Some Tcp
protocol_in (Some d) = option_and_then protocol_named (as_str d)

-- the protocol of an entry
unfoldable pub protocol_of : Data → Option Proto
protocol_of d = protocol_in (inner (codes "protocol") (Some d))

abbrev pub has_letter : List ℕ → Bool
has_letter text = list_any is_ascii_lowercase text

-- at most 15 of `a` to `z`, `0` to `9` and `-`, a letter among them, with a letter or digit at both ends
unfoldable pub is_port_name : List ℕ → Bool
is_port_name text = nat_le (length text) 15 && (is_namespace_name text && has_letter text)
