-- What is known between two lines, what a line changes in it, and what is told of the line (this project's own).
use Rattle.std.specs.Prelude.{ℕ, ◌+◌, List, [], ◌∷◌, length, Bool, true, false, ◌&&◌, ◌||◌, not, nat_lt, nat_le, find, if◌then◌else◌, Option, Some, None, Result, Ok, Err}
use Rattle.std.specs.List.{list_all, list_any}
use Rattle.std.specs.Option.{option_map, option_map_or}
use Rattle.cl_types.specs.Text.{text_eq}
use Rattle.cl_types.specs.declared.order.AgentOrder.{AgentOrder}
use Rattle.cl_types.specs.declared.order.AgentOrder.TheVariants as order
use Rattle.cl_types.specs.declared.question.Question.{Question}
use Rattle.cl_types.specs.declared.stream.Stream.{Stream}
use Rattle.cl_types.specs.Judgement.{Judgement}
use Rattle.cluster_objects.specs.declared.change.ClusterRefusal.{ClusterRefusal}
use Rattle.cluster_objects.specs.declared.change.ClusterRefusal.TheVariants as cluster
use Rattle.cluster_objects.specs.Changes.{after, Outcomes}
use Rattle.cluster_types.specs.declared.change.Change.{Change}
use Rattle.cluster_types.specs.declared.change.Change.TheVariants.{Put}
use Rattle.cluster_types.specs.declared.change.Object.TheVariants as object
use Rattle.cluster_types.specs.declared.references.RefItem.{RefItem}
use Rattle.cluster_types.specs.declared.references.RefItem.TheVariants.{Plain, PutPolicy}
use Rattle.cluster_types.specs.declared.references.RefPolicy.{RefPolicy}
use Rattle.cluster_types.specs.Evaluation.{side}
use Rattle.watch_streams.specs.HeldEvaluation.{held_side}
use Rattle.run_machine.specs.Lines.{LineData, objects, deliver, cut_stream, rejoin_stream, settle, quiet, after_line, delivering}
use Rattle.run_machine.specs.Machine.{OfStreams, SiteData, StreamOf, WorldData, channel_on, last_revision}
use Rattle.policy_reader.specs.declared.item.LineItem.{LineItem}
use Rattle.policy_reader.specs.declared.item.LineItem.TheVariants as item
use Rattle.control_lines.specs.declared.control.Control.{Control}
use Rattle.control_lines.specs.declared.control.Control.TheVariants as control
use Rattle.control_lines.specs.declared.control.NodeOrder.{NodeOrder}
use Rattle.json_fields.specs.declared.refusal.ReadRefusal.{ReadRefusal}
use Rattle.json_fields.specs.declared.refusal.ReadRefusal.TheVariants as reading
use Rattle.line_refusals.specs.declared.refusal.Refusal.{Refusal}
use Rattle.line_refusals.specs.declared.refusal.Refusal.TheVariants.{Reading, NotBuilt, TooLong, Applying, NoNode, NotCut, Full}
use Rattle.suite_run.specs.declared.item.Item.{Item}
use Rattle.suite_run.specs.declared.item.Item.TheVariants.{Objects, Ignored, Ask, AskHeld, Deliver, Cut, Rejoin, Settle, Blank, Refused}
use Rattle.suite_run.specs.Changing.{cuts_between}
use Rattle.policy_reader.specs.ReadLine.{read_line}

-- ---- what a line says

-- the most bytes of a line that is read
abbrev pub line_limit : ℕ
line_limit = 1048576

-- the most bytes of input that are read
abbrev pub input_limit : ℕ
input_limit = 4294967296

abbrev pub is_empty : List (List ℕ) → Bool
is_empty [] = true
is_empty (name ∷ names) = false

-- the policy refers to a cluster group by its name
abbrev pub has_references : RefPolicy → Bool
has_references p = not (is_empty p.applied_refs) || not (list_all is_empty p.rule_refs)

-- a policy that refers to none is one like any other
abbrev pub built_policy : RefPolicy → Option Change
built_policy p = if has_references p then None else Some (Put (object.Policy p.policy))

-- the change that an item comes to, where what it says is built
abbrev pub built : RefItem → Option Change
built (Plain change) = Some change
built (PutPolicy p) = built_policy p
built _ = None

abbrev pub with_change : Option Change → Option (List Change) → Option (List Change)
with_change (Some change) changes = option_map (λ cs. change ∷ cs) changes
with_change None changes = None

-- the changes of items that are all built
abbrev pub all_built : List RefItem → Option (List Change)
all_built [] = Some []
all_built (i ∷ is) = with_change (built i) (all_built is)

-- a line of which one object isn't built is refused whole
abbrev pub built_objects : List RefItem → Item
built_objects items = option_map_or Objects (all_built items) (Refused NotBuilt)

abbrev pub item_of_control : Control → Item
item_of_control (control.Deliver node stream count) = Deliver node stream count
item_of_control (control.Cut node stream) = Cut node stream
item_of_control (control.Rejoin node stream) = Rejoin node stream
item_of_control control.Settle = Settle
item_of_control (control.Ask node question) = Ask node question
item_of_control _ = Refused NotBuilt

-- of what agents are told to do, questions about what is held are answered, where they needn't wait
abbrev pub item_of_order : NodeOrder → AgentOrder → Item
item_of_order o (order.Ask question) = if o.settled then Refused NotBuilt else AskHeld o.node question
item_of_order o _ = Refused NotBuilt

abbrev pub item_of_line : LineItem → Item
item_of_line (item.Objects items) = built_objects items
item_of_line (item.Ignored kind) = Ignored kind
item_of_line (item.Control c) = item_of_control c
item_of_line (item.Order o) = item_of_order o o.order
item_of_line item.Blank = Blank

-- (a reader that ran out of memory says nothing of its line)
abbrev pub item_read : Result LineItem ReadRefusal → Item
item_read (Ok item) = item_of_line item
item_read (Err reading.NoMemory) = Blank
item_read (Err refusal) = Refused (Reading refusal)

unfoldable pub item_of : List ℕ → Item
item_of line = if nat_lt line_limit (length line) then Refused (TooLong (length line)) else item_read (read_line line)

-- ---- what is told of it

pub data OutcomeData : Type 0 where
  silent : OutcomeData
  -- the revision, and the streams that were cut as it was told
  revision : ℕ → List StreamOf → OutcomeData
  node_count : ℕ → OutcomeData
  no_change : OutcomeData
  passed_over : List ℕ → OutcomeData
  refused : Refusal → OutcomeData
  -- the verdict of the policies at a revision
  judged : ℕ → Judgement → OutcomeData
  -- the verdict of what a node's agent holds at its three revisions
  answered : List ℕ → OfStreams ℕ → Judgement → OutcomeData
  delivered : ℕ → OutcomeData
  was_cut : OutcomeData
  rejoined : ℕ → OutcomeData
  settled : ℕ → OutcomeData

abbrev pub is_refusal : OutcomeData → Bool
is_refusal (refused r) = true
is_refusal _ = false

-- ---- what is told of changes

-- A change of something other than a Node makes the next revision; one of a Node alone makes none, and the nodes are counted.
abbrev pub told_of : Outcomes → WorldData → WorldData → OutcomeData
told_of o w new =
    if o.other_changed then revision (last_revision new) (cuts_between w.sites new.sites)
    else (if o.node_changed then node_count (length o.cluster.nodes) else no_change)

-- (changes that ran out of memory are no step)
abbrev pub told_refusal : ClusterRefusal → OutcomeData
told_refusal cluster.NoMemory = silent
told_refusal refusal = refused (Applying refusal)

abbrev pub told_of_changes : WorldData → List Change → Result Outcomes ClusterRefusal → OutcomeData
told_of_changes w changes (Ok o) = told_of o w (after_line (objects changes) w)
told_of_changes w changes (Err refusal) = told_refusal refusal

-- ---- what is told of a node

-- a node is listed once the nodes are fixed
abbrev pub has_name : List ℕ → SiteData → Bool
has_name name x = text_eq x.node name

abbrev pub at_name : List ℕ → WorldData → Option SiteData
at_name name w = find (has_name name) w.sites

-- what is told of the node, where it is listed
abbrev pub of_node : Option SiteData → (SiteData → OutcomeData) → OutcomeData
of_node None tell = refused NoNode
of_node (Some x) tell = tell x

-- the answer to a question about the policies, and about what the node's agent holds
abbrev pub judged_at : WorldData → Question → SiteData → OutcomeData
judged_at w question x = judged (last_revision w) (side w.cluster x.node question)

abbrev pub answered_at : Question → SiteData → OutcomeData
answered_at question x = answered x.node x.revisions (held_side x.maps question)

-- what is told of a stream that is cut, by whether it was live
abbrev pub told_of_cut : Bool → OutcomeData
told_of_cut live = if live then was_cut else no_change

abbrev pub cut_told : Stream → SiteData → OutcomeData
cut_told s x = told_of_cut (channel_on s x).live

-- a live stream doesn't begin again, and none on which no place is left
abbrev pub rejoin_told : WorldData → Stream → SiteData → OutcomeData
rejoin_told w s x =
    if (channel_on s x).live then refused NotCut
    else (if nat_le w.ring (length (channel_on s x).queue) then refused Full else rejoined (last_revision w))

abbrev pub delivered_told : Option Stream → Option ℕ → WorldData → Option (List ℕ) → OutcomeData
delivered_told stream count w None = delivered (length (delivering None stream count w))
delivered_told stream count w (Some name) = of_node (at_name name w) (λ x. delivered (length (delivering (Some name) stream count w)))

-- ---- a line

-- what is told of a line
abbrev pub told_of_item : WorldData → Item → OutcomeData
told_of_item w (Objects changes) = told_of_changes w changes (after w.cluster changes)
told_of_item w (Ignored kind) = passed_over kind
told_of_item w (Ask node question) = of_node (at_name node w) (judged_at w question)
told_of_item w (AskHeld node question) = of_node (at_name node w) (answered_at question)
told_of_item w (Deliver node stream count) = delivered_told stream count w node
told_of_item w (Cut node stream) = of_node (at_name node w) (cut_told stream)
told_of_item w (Rejoin node stream) = of_node (at_name node w) (rejoin_told w stream)
told_of_item w Settle = settled (last_revision w)
told_of_item w Blank = silent
told_of_item w (Refused r) = refused r

-- what the line makes happen in the machine
abbrev pub line_of : Item → LineData
line_of (Objects changes) = objects changes
line_of (Deliver node stream count) = deliver node stream count
line_of (Cut node stream) = cut_stream (record { node = node; stream = stream })
line_of (Rejoin node stream) = rejoin_stream (record { node = node; stream = stream })
line_of Settle = settle
line_of _ = quiet

-- the world after a line, and what is told of the line
pub record Step : Type 0 where
  pub world : WorldData
  pub outcome : OutcomeData

-- a refused line makes nothing happen
abbrev pub happens_if : OutcomeData → LineData → WorldData → WorldData
happens_if outcome line w = if is_refusal outcome then w else after_line line w

unfoldable pub step : WorldData → Item → Step
step w item = record { world = happens_if (told_of_item w item) (line_of item) w; outcome = told_of_item w item }

-- what is told of a line, and the world after it
abbrev pub outcome : WorldData → List ℕ → OutcomeData
outcome w line = (step w (item_of line)).outcome

abbrev pub happens : WorldData → List ℕ → WorldData
happens w line = (step w (item_of line)).world
