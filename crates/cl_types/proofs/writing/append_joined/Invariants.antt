use Rattle.std.proofs.Common.{◌≡◌, ◌++◌, false, map, take}
use Rattle.std.specs.Fmt.{digits}
use Rattle.std.specs.List.{join_with_byte}
use Rattle.cl_types.proofs.writing.append_joined.Given as goal

-- the parts before i are written
abbrev pub invariant-loop-i : goal.invariant-loop-i
invariant-loop-i l = l.out ≡ l.fn.out ++ join_with_byte l.separator (map (digits l.base false) (take l.i l.parts))
