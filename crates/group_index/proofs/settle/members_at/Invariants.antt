use Rattle.std.proofs.Common.{◌≡◌, take}
use Rattle.std.specs.List.{flat_map}
use Rattle.group_index.specs.Members.{members_of}
use Rattle.group_index.specs.Settled.{here_at}
use Rattle.group_index.proofs.settle.members_at.Given as goal

-- those at the addresses so far
abbrev pub invariant-loop-a : goal.invariant-loop-a
invariant-loop-a l = l.members.items ≡ flat_map (here_at (members_of l.c.cluster l.g)) (take l.a-index l.addresses)
