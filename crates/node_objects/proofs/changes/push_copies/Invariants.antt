use Rattle.std.proofs.Common.{◌≡◌, ◌++◌, take}
use Rattle.node_objects.proofs.changes.push_copies.Given as goal

-- the changes so far
abbrev pub invariant-loop-change : goal.invariant-loop-change
invariant-loop-change l = l.changes.items ≡ l.initial.changes.items ++ take l.change-index l.copied
