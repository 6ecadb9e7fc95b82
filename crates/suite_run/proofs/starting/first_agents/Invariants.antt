use Rattle.std.proofs.Common.{◌≡◌, replicate}
use Rattle.held_maps.specs.Held.{nothing_held}
use Rattle.suite_run.proofs.starting.first_agents.Given as goal

abbrev pub invariant-loop-i : goal.invariant-loop-i
invariant-loop-i l = l.agents.items ≡ replicate l._i nothing_held
