use Rattle.std.proofs.Common.{◌≡◌, ◌++◌, map, take}
use Rattle.label_select.specs.Written.{listed}
use Rattle.label_select.proofs.written.append_listed.Given as goal

-- so far the items before i are listed
abbrev pub invariant-loop-i : goal.invariant-loop-i
invariant-loop-i g l = l.out ≡ l.initial.out ++ listed (map g.T.Written.text (take l.i l.items))
