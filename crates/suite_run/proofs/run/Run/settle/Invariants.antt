use Rattle.std.proofs.Common.{◌≡◌, take as first}
use Rattle.run_machine.specs.Lines.{every_stream}
use Rattle.suite_run.specs.Delivering.{on_nodes}
use Rattle.suite_run.specs.Doing.{node_names, run_after_all}
use Rattle.suite_run.specs.Resting.{settling_on}
use Rattle.suite_run.proofs.run.Run.settle.Given as goal

-- the nodes before this one have had their turns
abbrev pub invariant-loop-i : goal.invariant-loop-i
invariant-loop-i l = l.self ≡ run_after_all (on_nodes settling_on every_stream l.fn.self.sites (first l.i (node_names l.fn.self.sites))) l.fn.self
