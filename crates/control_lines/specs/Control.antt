-- What a control line orders (this project's own): one whose type begins with `X-`.
use Rattle.std.specs.Prelude.{ℕ, ◌^◌, ◌-◌, List, Bool, Option, Some, None, Result, Ok, Err, if◌then◌else◌, codes}
use Rattle.serde_json.specs.Data.{Data}
use Rattle.cl_types.specs.declared.order.AgentOrder.{AgentOrder}
use Rattle.cl_types.specs.declared.order.AgentOrder.TheVariants as order
use Rattle.cl_types.specs.declared.question.Question.{Question}
use Rattle.cl_types.specs.Text.{text_eq}
use Rattle.json_fields.specs.declared.refusal.ReadRefusal.{ReadRefusal}
use Rattle.json_fields.specs.declared.refusal.ReadRefusal.TheVariants.{BadControl}
use Rattle.json_fields.specs.Fields.{field}
use Rattle.control_lines.specs.declared.control.Control.TheVariants as control
use Rattle.control_lines.specs.declared.control.ControlLine.{ControlLine}
use Rattle.control_lines.specs.declared.control.ControlLine.TheVariants.{Control, Order}
use Rattle.control_lines.specs.declared.words.View.{View}
use Rattle.control_lines.specs.declared.words.View.TheVariants.{PoliciesView, HeldView}
use Rattle.control_lines.specs.Needed.{◌>>=◌, optional, number_of, text_at, text_if_there, texts_at, truth_at, truth_or_false}
use Rattle.control_lines.specs.Orders.{read_attach, read_detach, read_packet, read_question, read_tick}
use Rattle.control_lines.specs.Words.{stream_if_there, stream_of, view_of, word_at}

-- the greatest number of 32 bits
abbrev pub most_messages : ℕ
most_messages = 2 ^ 32 - 1

abbrev pub node_at : Data → Result (List ℕ) ReadRefusal
node_at d = text_at (codes "node") d

unfoldable pub count_if_there : Data → Result (Option ℕ) ReadRefusal
count_if_there d = optional (number_of 1 most_messages) (field (codes "count") d)

unfoldable pub read_deliver : Data → Result ControlLine ReadRefusal
read_deliver d = do
  node ← text_if_there (codes "node") d
  stream ← stream_if_there d
  count ← count_if_there d
  Ok (Control (control.Deliver node stream count))

unfoldable pub read_cut : Data → Result ControlLine ReadRefusal
read_cut d = do
  node ← node_at d
  stream ← word_at stream_of (codes "stream") d
  Ok (Control (control.Cut node stream))

unfoldable pub read_rejoin : Data → Result ControlLine ReadRefusal
read_rejoin d = do
  node ← node_at d
  stream ← word_at stream_of (codes "stream") d
  Ok (Control (control.Rejoin node stream))

-- an order to the agent of a node, and whether it waits until all is settled
unfoldable pub order_at : AgentOrder → Data → Result ControlLine ReadRefusal
order_at o d = do
  node ← node_at d
  settled ← truth_or_false (codes "settled") d
  Ok (Order (record { node = node; order = o; settled = settled }))

-- the policies' own verdict is asked of the controller, what is held of the node's agent
unfoldable pub ask_of : View → Question → Data → Result ControlLine ReadRefusal
ask_of PoliciesView q d = node_at d >>= λ node. Ok (Control (control.Ask node q))
ask_of HeldView q d = order_at (order.Ask q) d

unfoldable pub read_ask : Data → Result ControlLine ReadRefusal
read_ask d = do
  view ← word_at view_of (codes "view") d
  question ← read_question d
  ask_of view question d

-- a command of antctl goes to the agent of the node that is given, else to the controller
unfoldable pub antctl_of : Option (List ℕ) → List (List ℕ) → Bool → ControlLine
antctl_of None words settled = Control (control.Antctl words settled)
antctl_of (Some node) words settled = Order (record { node = node; order = order.Antctl words; settled = settled })

unfoldable pub read_antctl : Data → Result ControlLine ReadRefusal
read_antctl d = do
  words ← texts_at (codes "words") d
  node ← text_if_there (codes "node") d
  settled ← truth_or_false (codes "settled") d
  Ok (antctl_of node words settled)

unfoldable pub read_node_state : Data → Result ControlLine ReadRefusal
read_node_state d = do
  node ← node_at d
  up ← truth_at (codes "up") d
  Ok (Control (control.Node node up))

unfoldable pub read_restart : Data → Result ControlLine ReadRefusal
read_restart d = node_at d >>= λ node. Ok (Control (control.Restart node))

abbrev pub ordered : Result AgentOrder ReadRefusal → Data → Result ControlLine ReadRefusal
ordered read d = read >>= λ o. order_at o d

unfoldable pub read_trace : Data → Result AgentOrder ReadRefusal
read_trace d = read_packet d >>= λ p. Ok (order.Trace p)

unfoldable pub read_sent : Data → Result AgentOrder ReadRefusal
read_sent d = read_packet d >>= λ p. Ok (order.Packet p)

-- orders to agents, by the type of the line
unfoldable pub order_of_type : List ℕ → Data → Result ControlLine ReadRefusal
order_of_type type d =
    if text_eq type (codes "X-ATTACH") then ordered (read_attach d) d
    else (if text_eq type (codes "X-DETACH") then ordered (read_detach d) d
    else (if text_eq type (codes "X-PACKET") then ordered (read_sent d) d
    else (if text_eq type (codes "X-TRACE") then ordered (read_trace d) d
    else (if text_eq type (codes "X-TICK") then ordered (read_tick d) d
    else Err BadControl))))

-- questions and commands, for the controller or for an agent
unfoldable pub request_of_type : List ℕ → Data → Result ControlLine ReadRefusal
request_of_type type d =
    if text_eq type (codes "X-ASK") then read_ask d
    else (if text_eq type (codes "X-ANTCTL") then read_antctl d
    else (if text_eq type (codes "X-NODE") then read_node_state d
    else (if text_eq type (codes "X-RESTART") then read_restart d
    else order_of_type type d)))

-- the line of a type, with its fields
unfoldable pub read_control : List ℕ → Data → Result ControlLine ReadRefusal
read_control type d =
    if text_eq type (codes "X-DELIVER") then read_deliver d
    else (if text_eq type (codes "X-CUT") then read_cut d
    else (if text_eq type (codes "X-REJOIN") then read_rejoin d
    else (if text_eq type (codes "X-SETTLE") then Ok (Control control.Settle)
    else request_of_type type d)))
