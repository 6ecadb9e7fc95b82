use Rattle.std.proofs.Common.{take}
use Rattle.cl_types.specs.Reading.{Lacks}
use Rattle.cl_types.proofs.reading.cut.Given as goal

-- no such byte so far
abbrev pub invariant-loop-i : goal.invariant-loop-i
invariant-loop-i l = Lacks l.byte (take l.i l.text)
