use Rattle.std.proofs.Common.{◌≡◌, take}
use Rattle.std.specs.Str.Parse.{AllDigits, digits_value}
use Rattle.cl_types.proofs.reading.numeral.Given as goal

-- the digits so far
abbrev pub invariant-loop-b : goal.invariant-loop-b
invariant-loop-b l = AllDigits l.base (take l.b-index l.text) × (l.n ≡ digits_value l.base (take l.b-index l.text))
