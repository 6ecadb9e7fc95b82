use Rattle.std.proofs.Common.{◌≡◌, take}
use Rattle.cl_types.proofs.list.ListClone.clone.Given as goal

-- so far each item was copied
abbrev pub invariant-loop-item : goal.invariant-loop-item
invariant-loop-item g l = l.items.items ≡ take l.item-index l.item-items
