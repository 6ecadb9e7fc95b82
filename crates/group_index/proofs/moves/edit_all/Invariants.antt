use Rattle.std.proofs.Common.{◌≡◌, ◌+◌, ◌≤◌, length, vec_capacity, vec_len}
use Rattle.group_index.specs.Settled.{AscendByAddress, edited_by}
use Rattle.group_index.proofs.moves.edit_all.Given as goal

-- the edits that are left lead to the same members, and there are places for them
abbrev pub invariant-loop-edit : goal.invariant-loop-edit
invariant-loop-edit l = record {
  same : edited_by l.edits.items l.members.items ≡ edited_by l.initial.edits.items l.initial.members.items;
  ascends : AscendByAddress l.members.items;
  places : vec_len l.members + length l.edits.items ≤ vec_capacity l.members;
}

abbrev pub decreases-loop-edit : goal.decreases-loop-edit
decreases-loop-edit l = length l.edits.items
