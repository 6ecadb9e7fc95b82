use Rattle.std.proofs.Common.{take}
use Rattle.cl_types.specs.Reading.{HasNoGap}
use Rattle.cl_types.proofs.reading.cut_gap.Given as goal

-- no two colons in a row so far
abbrev pub invariant-loop-i : goal.invariant-loop-i
invariant-loop-i l = HasNoGap (take l.i l.text)
