use Rattle.std.proofs.Common.{◌≡◌, ◌≤◌, length, take, vec_capacity}
use Rattle.cluster_objects.proofs.kinds.copied.Given as goal

-- so far each item was copied, and there is a place for all
abbrev pub invariant-loop-item : goal.invariant-loop-item
invariant-loop-item g l = (l.copy.items ≡ take l.item-index l.items) × (length l.items ≤ vec_capacity l.copy)
