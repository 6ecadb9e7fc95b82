use Rattle.std.proofs.Common.{◌≡◌, ◌++◌, take}
use Rattle.touched_names.specs.Touching.{group_names}
use Rattle.touched_names.proofs.touching.push_group_names.Given as goal

-- the names of the groups so far
abbrev pub invariant-loop-g : goal.invariant-loop-g
invariant-loop-g l = l.names.items ≡ l.initial.names.items ++ group_names (take l.g-index l.groups)
