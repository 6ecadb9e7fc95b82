use Rattle.std.proofs.Common.{◌≡◌, take}
use Rattle.std.specs.List.{flat_map}
use Rattle.group_index.specs.Index.{group_nodes}
use Rattle.group_index.proofs.index.GroupIndex.nodes_of.Given as goal

-- the nodes of the groups so far
abbrev pub invariant-loop-g : goal.invariant-loop-g
invariant-loop-g l = l.nodes.items ≡ flat_map (group_nodes l.self) (take l.g-index l.applied)
