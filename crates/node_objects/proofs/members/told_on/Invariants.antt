use Rattle.std.proofs.Common.{◌≡◌, take}
use Rattle.node_objects.specs.Indexed.{told_on}
use Rattle.node_objects.proofs.members.told_on.Given as goal

-- of the members so far, those on the node
abbrev pub invariant-loop-m : goal.invariant-loop-m
invariant-loop-m l = l.held.items ≡ told_on l.node (take l.m-index l.members)
