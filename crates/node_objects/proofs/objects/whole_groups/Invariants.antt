use Rattle.std.proofs.Common.{◌≡◌, map, take}
use Rattle.node_objects.specs.Indexed.{all_told}
use Rattle.watch_streams.specs.Projection.{group_object}
use Rattle.node_objects.proofs.objects.whole_groups.Given as goal

-- the groups so far
abbrev pub invariant-loop-g : goal.invariant-loop-g
invariant-loop-g l = l.objects.items ≡ map (group_object (all_told l.groups)) (take l.g-index l.named)
