use Rattle.std.proofs.Common.{◌≡◌, take}
use Rattle.std.specs.List.{flat_map}
use Rattle.group_index.specs.Index.{group_if_has}
use Rattle.group_index.proofs.index.GroupIndex.groups_having.Given as goal

-- those of the groups so far
abbrev pub invariant-loop-entry : goal.invariant-loop-entry
invariant-loop-entry l = l.groups.items ≡ flat_map (group_if_has l.pod) (take l.entry-index l.entries)
