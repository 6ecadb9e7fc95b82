use Rattle.std.proofs.Common.{◌≡◌, map, take}
use Rattle.node_objects.specs.Indexed.{on_told}
use Rattle.watch_streams.specs.Projection.{group_object}
use Rattle.node_objects.proofs.objects.groups_on.Given as goal

-- the groups so far
abbrev pub invariant-loop-g : goal.invariant-loop-g
invariant-loop-g l = l.objects.items ≡ map (group_object (on_told l.groups l.node)) (take l.g-index l.named)
