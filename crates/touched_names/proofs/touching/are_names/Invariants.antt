use Rattle.std.proofs.Common.{take}
use Rattle.std.specs.List.{AllByRecursion}
use Rattle.touched_names.specs.Standing.{IsName}
use Rattle.touched_names.proofs.touching.are_names.Given as goal

-- the names so far have what their types keep
abbrev pub invariant-loop-name : goal.invariant-loop-name
invariant-loop-name l = AllByRecursion IsName (take l.name-index l.names)
