-- Lines lead to sound worlds: what is read of them is whole.
use Rattle.std.proofs.Common.{◌≡◌, ℕ, Bool, true, false, nat_lt, length, Option, Some, None, Result, Ok, Err, List, [], ◌∷◌, if◌then◌else◌, refl, ap, ◌∙◌, subst, sym}
use Rattle.std.specs.List.{AllByRecursion}
use Rattle.cl_types.specs.declared.order.AgentOrder.{AgentOrder}
use Rattle.cl_types.specs.declared.order.AgentOrder.TheVariants as order
use Rattle.cluster_types.specs.declared.change.Change.{Change}
use Rattle.cluster_types.specs.declared.references.RefItem.{RefItem}
use Rattle.cluster_types.specs.declared.references.RefItem.TheVariants as ref
use Rattle.cluster_types.specs.declared.references.RefPolicy.{RefPolicy}
use Rattle.cluster_types.specs.Whole.{IsWholePolicy}
use Rattle.cluster_objects.specs.Laws.{IsWholeChange}
use Rattle.control_lines.specs.declared.control.Control.{Control}
use Rattle.control_lines.specs.declared.control.Control.TheVariants as control
use Rattle.control_lines.specs.declared.control.NodeOrder.{NodeOrder}
use Rattle.json_fields.specs.declared.refusal.ReadRefusal.{ReadRefusal}
use Rattle.json_fields.specs.declared.refusal.ReadRefusal.TheVariants as reading
use Rattle.line_refusals.specs.declared.refusal.Refusal.TheVariants.{NotBuilt}
use Rattle.policy_reader.specs.declared.item.LineItem.{LineItem}
use Rattle.policy_reader.specs.declared.item.LineItem.TheVariants as line
use Rattle.policy_reader.specs.Laws.{IsWholeItem, WhatIsReadIsWhole}
use Rattle.policy_reader.specs.ReadLine.{read_line}
use Rattle.run_machine.specs.Laws.{IsSound}
use Rattle.run_machine.specs.Lines.{IsWholeLine, LineData, LinesLeadToSoundWorlds as MachineIsSound, after_line, after_lines, quiet}
use Rattle.run_machine.specs.Machine.{WorldData, first_world}
use Rattle.suite_run.specs.declared.item.Item.{Item}
use Rattle.suite_run.specs.declared.item.Item.TheVariants.{AskHeld, Refused}
use Rattle.suite_run.specs.Blocks.{world_after}
use Rattle.suite_run.specs.Laws.{LinesLeadToSoundWorlds}
use Rattle.suite_run.specs.World.{line_limit, built, built_policy, has_references, with_change, all_built, built_objects, item_of, item_of_control, item_of_order, item_read, line_of, is_refusal, step, told_of_item, outcome, happens}

-- the changes that are built are whole
abbrev MayBeWhole : Option Change → Type 0
MayBeWhole None = Unit {0}
MayBeWhole (Some change) = IsWholeChange change

abbrev MayBeAllWhole : Option (List Change) → Type 0
MayBeAllWhole None = Unit {0}
MayBeAllWhole (Some changes) = AllByRecursion IsWholeChange changes

abbrev IsWholeStep : Item → Type 0
IsWholeStep item = IsWholeLine (line_of item)

policy_whole : (p : RefPolicy) → IsWholePolicy p.policy → MayBeWhole (built_policy p)
policy_whole p whole = go (has_references p) refl
  where
    go : (b : Bool) → has_references p ≡ b → MayBeWhole (built_policy p)
    go true e = rw e tt
    go false e = rw e whole

item_whole : (i : RefItem) → IsWholeItem i → MayBeWhole (built i)
item_whole (ref.Plain change) whole = whole
item_whole (ref.PutGroup g) whole = tt
item_whole (ref.RemoveGroup name) whole = tt
item_whole (ref.PutPolicy p) whole = policy_whole p whole
item_whole (ref.PutPool pool) whole = tt
item_whole (ref.RemovePool name) whole = tt
item_whole (ref.PutPooled e) whole = tt

with_whole : (change : Option Change) (changes : Option (List Change)) → MayBeWhole change → MayBeAllWhole changes → MayBeAllWhole (with_change change changes)
with_whole None changes one all = tt
with_whole (Some change) None one all = tt
with_whole (Some change) (Some changes) one all = (one, all)

all_whole : (items : List RefItem) → AllByRecursion IsWholeItem items → MayBeAllWhole (all_built items)
all_whole [] whole = tt
all_whole (i ∷ is) whole = with_whole (built i) (all_built is) (item_whole i whole.0) (all_whole is whole.1)

objects_whole : (items : List RefItem) → MayBeAllWhole (all_built items) → IsWholeStep (built_objects items)
objects_whole items whole = go (all_built items) refl whole
  where
    go : (o : Option (List Change)) → all_built items ≡ o → MayBeAllWhole o → IsWholeStep (built_objects items)
    go None e all = rw e tt
    go (Some changes) e all = rw e all

order_whole : (o : NodeOrder) (a : AgentOrder) → IsWholeStep (item_of_order o a)
order_whole o (order.Ask question) = by_settled o.settled
  where
    by_settled : (b : Bool) → IsWholeStep (if b then Refused NotBuilt else AskHeld o.node question)
    by_settled true = tt
    by_settled false = tt
order_whole o _ = tt

control_whole : (c : Control) → IsWholeStep (item_of_control c)
control_whole (control.Deliver _ _ _) = tt
control_whole (control.Cut node stream) = tt
control_whole (control.Rejoin node stream) = tt
control_whole control.Settle = tt
control_whole (control.Ask node question) = tt
control_whole (control.Antctl words settled) = tt
control_whole (control.Node node up) = tt
control_whole (control.Restart node) = tt

refusal_whole : (r : ReadRefusal) → IsWholeStep (item_read (Err r))
refusal_whole reading.NotJson = tt
refusal_whole (reading.BadShape path) = tt
refusal_whole (reading.Unsupported name) = tt
refusal_whole reading.BadName = tt
refusal_whole reading.BadLabel = tt
refusal_whole reading.BadSelector = tt
refusal_whole reading.BadAddr = tt
refusal_whole reading.BadPrefix = tt
refusal_whole reading.BadPort = tt
refusal_whole reading.BadPriority = tt
refusal_whole reading.BadAction = tt
refusal_whole reading.BadControl = tt
refusal_whole reading.NoMemory = tt

read_whole : WhatIsReadIsWhole → (bytes : List ℕ) → IsWholeStep (item_read (read_line bytes))
read_whole law bytes = go (read_line bytes) refl
  where
    go : (r : Result LineItem ReadRefusal) → read_line bytes ≡ r → IsWholeStep (item_read (read_line bytes))
    go (Ok (line.Objects items)) e = rw e (objects_whole items (all_whole items (law bytes items e)))
    go (Ok (line.Ignored kind)) e = rw e tt
    go (Ok (line.Control c)) e = rw e (control_whole c)
    go (Ok (line.Order o)) e = rw e (order_whole o o.order)
    go (Ok line.Blank) e = rw e tt
    go (Err r) e = rw e (refusal_whole r)

line_whole : WhatIsReadIsWhole → (bytes : List ℕ) → IsWholeStep (item_of bytes)
unfolding item_of
line_whole law bytes = go (nat_lt line_limit (length bytes)) refl
  where
    go : (b : Bool) → nat_lt line_limit (length bytes) ≡ b → IsWholeStep (item_of bytes)
    go true e = rw e tt
    go false e = rw e (read_whole law bytes)

-- ---- lines of the machine

-- a refused line is as one that makes nothing happen
abbrev taken_as : Bool → LineData → LineData
taken_as is_refused line = if is_refused then quiet else line

abbrev said_as : WorldData → List ℕ → LineData
said_as w bytes = taken_as (is_refusal (outcome w bytes)) (line_of (item_of bytes))

lines_said : WorldData → List (List ℕ) → List LineData
lines_said w [] = []
lines_said w (bytes ∷ lines) = said_as w bytes ∷ lines_said (happens w bytes) lines

taken_after : (b : Bool) (line : LineData) (w : WorldData) → after_line (taken_as b line) w ≡ (if b then w else after_line line w)
taken_after true line w = refl
taken_after false line w = refl

happens-said : (w : WorldData) (bytes : List ℕ) → after_line (said_as w bytes) w ≡ happens w bytes
unfolding step
happens-said w bytes = taken_after (is_refusal (told_of_item w (item_of bytes))) (line_of (item_of bytes)) w

world-said : (w : WorldData) (lines : List (List ℕ)) → after_lines (lines_said w lines) w ≡ world_after w lines
unfolding lines_said
world-said w [] = refl
world-said w (bytes ∷ lines) = ap (after_lines (lines_said (happens w bytes) lines)) (happens-said w bytes) ∙ world-said (happens w bytes) lines

taken_whole : (b : Bool) (line : LineData) → IsWholeLine line → IsWholeLine (taken_as b line)
taken_whole true line whole = tt
taken_whole false line whole = whole

said_whole : WhatIsReadIsWhole → (w : WorldData) (lines : List (List ℕ)) → AllByRecursion IsWholeLine (lines_said w lines)
unfolding lines_said
said_whole law w [] = tt
said_whole law w (bytes ∷ lines) = (taken_whole (is_refusal (outcome w bytes)) (line_of (item_of bytes)) (line_whole law bytes), said_whole law (happens w bytes) lines)

pub sound_worlds : WhatIsReadIsWhole → MachineIsSound → LinesLeadToSoundWorlds
sound_worlds law machine ring lines =
    subst IsSound (world-said (first_world ring) lines) (machine ring (lines_said (first_world ring) lines) (said_whole law (first_world ring) lines))
