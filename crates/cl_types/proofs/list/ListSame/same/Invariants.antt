use Rattle.std.proofs.Common.{◌≡◌, length, take}
use Rattle.cl_types.proofs.list.ListSame.same.Given as goal

-- as long as the other list, and so far the same
abbrev pub invariant-loop-i : goal.invariant-loop-i
invariant-loop-i g l = (length l.self ≡ length l.other) × (take l.i l.self ≡ take l.i l.other)
