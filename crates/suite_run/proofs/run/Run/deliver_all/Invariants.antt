use Rattle.std.proofs.Common.{take as first}
use Rattle.suite_run.specs.Delivering.{HasDone, delivering_on, meant_streams, on_nodes}
use Rattle.suite_run.specs.Doing.{node_names}
use Rattle.suite_run.proofs.run.Run.deliver_all.Given as goal

-- the nodes before this one have had their turns
abbrev pub invariant-loop-i : goal.invariant-loop-i
invariant-loop-i l = HasDone (on_nodes (delivering_on l.count) (meant_streams l.stream) l.fn.self.sites (first l.i (node_names l.fn.self.sites))) l.fn.self l.self l.delivered
