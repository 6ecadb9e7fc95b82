use Rattle.std.proofs.Common.{◌≡◌, take}
use Rattle.label_select.specs.Comparing.{met}
use Rattle.label_select.proofs.comparing.Comparison.meet.Given as goal

-- the bytes so far came
abbrev pub invariant-loop-byte : goal.invariant-loop-byte
invariant-loop-byte l = l.self ≡ met l.initial.self (take l.byte-index l.bytes)
