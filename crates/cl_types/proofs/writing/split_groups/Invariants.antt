use Rattle.std.proofs.Common.{◌≡◌, ◌-◌, ◌++◌, length, drop}
use Rattle.cl_types.specs.Written.{places}
use Rattle.cl_types.proofs.writing.split_groups.Given as goal

-- the low groups are in place, and rest has the others
abbrev pub invariant-loop-i : goal.invariant-loop-i
invariant-loop-i l =
    (length l.groups ≡ 8) × (places (8 - l.i) 65536 l.rest ++ drop (8 - l.i) l.groups ≡ places 8 65536 l.n)
