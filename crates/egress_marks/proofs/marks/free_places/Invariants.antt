use Rattle.std.proofs.Common.{◌≡◌, ◌++◌, take, drop}
use Rattle.egress_marks.specs.Places.{freed}
use Rattle.egress_marks.proofs.marks.free_places.Given as goal

-- what was looked at is freed, and the rest is as it was
abbrev pub invariant-loop-place : goal.invariant-loop-place
invariant-loop-place l = l.place-items ≡ freed (take l.place-index l.fn.places.items) l.a ++ drop l.place-index l.fn.places.items
