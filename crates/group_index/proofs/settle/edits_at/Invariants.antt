use Rattle.std.proofs.Common.{◌≡◌, map, take}
use Rattle.group_index.specs.Members.{members_of}
use Rattle.group_index.specs.Settled.{edit_to}
use Rattle.group_index.proofs.settle.edits_at.Given as goal

-- those at the addresses so far
abbrev pub invariant-loop-a : goal.invariant-loop-a
invariant-loop-a l = l.edits.items ≡ map (edit_to (members_of l.c.cluster l.g)) (take l.a-index l.addresses)
