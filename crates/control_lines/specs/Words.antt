-- The words of control lines (this project's own).
use Rattle.std.specs.Prelude.{ℕ, List, Option, Some, None, Result, if◌then◌else◌, codes}
use Rattle.serde_json.specs.Data.{Data}
use Rattle.cl_types.specs.declared.keys.Dir.{Dir}
use Rattle.cl_types.specs.declared.keys.Dir.TheVariants.{Ingress, Egress}
use Rattle.cl_types.specs.declared.service.Proto.{Proto}
use Rattle.cl_types.specs.declared.service.Proto.TheVariants.{Tcp, Udp, Sctp, Icmp}
use Rattle.cl_types.specs.declared.stream.Stream.{Stream}
use Rattle.cl_types.specs.declared.stream.Stream.TheVariants.{Policies, Addresses, Applied}
use Rattle.cl_types.specs.Text.{text_eq}
use Rattle.json_fields.specs.declared.refusal.ReadRefusal.{ReadRefusal}
use Rattle.json_fields.specs.Fields.{field}
use Rattle.control_lines.specs.declared.words.View.{View}
use Rattle.control_lines.specs.declared.words.View.TheVariants.{PoliciesView, HeldView}
use Rattle.control_lines.specs.Needed.{◌>>=◌, needed, optional, text_of, text_at}

abbrev pub protocol_of : List ℕ → Option Proto
protocol_of text =
    if text_eq text (codes "tcp") then Some Tcp
    else (if text_eq text (codes "udp") then Some Udp
    else (if text_eq text (codes "sctp") then Some Sctp
    else (if text_eq text (codes "icmp") then Some Icmp else None)))

abbrev pub direction_of : List ℕ → Option Dir
direction_of text =
    if text_eq text (codes "ingress") then Some Ingress
    else (if text_eq text (codes "egress") then Some Egress else None)

abbrev pub stream_of : List ℕ → Option Stream
stream_of text =
    if text_eq text (codes "policies") then Some Policies
    else (if text_eq text (codes "addresses") then Some Addresses
    else (if text_eq text (codes "applied") then Some Applied else None))

-- whose verdict is asked for: the policies' own, or that of what a node's agent holds
abbrev pub view_of : List ℕ → Option View
view_of text =
    if text_eq text (codes "policies") then Some PoliciesView
    else (if text_eq text (codes "held") then Some HeldView else None)

-- a field that is a word
unfoldable pub word_at : {X : Type 0} → (List ℕ → Option X) → List ℕ → Data → Result X ReadRefusal
word_at word name d = text_at name d >>= λ text. needed (word text)

unfoldable pub stream_if_there : Data → Result (Option Stream) ReadRefusal
stream_if_there d = optional (λ s. text_of s >>= λ text. needed (stream_of text)) (field (codes "stream") d)
