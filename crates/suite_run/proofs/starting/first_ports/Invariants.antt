use Rattle.std.proofs.Common.{◌≡◌, replicate}
use Rattle.suite_run.specs.Starting.{empty_ports}
use Rattle.suite_run.proofs.starting.first_ports.Given as goal

abbrev pub invariant-loop-i : goal.invariant-loop-i
invariant-loop-i l = l.ports.items ≡ replicate l._i (empty_ports l.fn.ring)
