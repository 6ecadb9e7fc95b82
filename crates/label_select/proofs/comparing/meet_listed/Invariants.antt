use Rattle.std.proofs.Common.{◌≡◌, map, take}
use Rattle.label_select.specs.Comparing.{met}
use Rattle.label_select.specs.Written.{listed}
use Rattle.label_select.proofs.comparing.meet_listed.Given as goal

-- so far the items before i came
abbrev pub invariant-loop-i : goal.invariant-loop-i
invariant-loop-i g l = l.c ≡ met l.initial.c (listed (map g.T.Met.text (take l.i l.items)))
