use Rattle.std.proofs.Common.{◌≡◌, map, take}
use Rattle.node_objects.specs.Indexed.{told}
use Rattle.node_objects.proofs.members.told_all.Given as goal

-- the members so far
abbrev pub invariant-loop-m : goal.invariant-loop-m
invariant-loop-m l = l.held.items ≡ map told (take l.m-index l.members)
