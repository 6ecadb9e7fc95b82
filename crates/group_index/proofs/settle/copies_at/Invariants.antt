use Rattle.std.proofs.Common.{◌≡◌, take}
use Rattle.std.specs.List.{flat_map}
use Rattle.group_index.specs.Settled.{here_at}
use Rattle.group_index.proofs.settle.copies_at.Given as goal

-- those at the addresses so far
abbrev pub invariant-loop-a : goal.invariant-loop-a
invariant-loop-a l = l.copies.items ≡ flat_map (here_at l.members) (take l.a-index l.addresses)
