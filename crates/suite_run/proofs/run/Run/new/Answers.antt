use Rattle.std.proofs.Common.{length, ap}
use Rattle.suite_run.proofs.BeginningRuns.{begins_run, begins_as_machine}
use Rattle.suite_run.proofs.run.Run.new.Goals as goal

pub invariant_of-result : goal.invariant_of-result
invariant_of-result c =
    begins_run c.args.cluster.cluster c.args.ring (length c.nodes-nodes.result.now) c.in_ok-ports.ports c.in_ok-controller.controller c.in_ok-agents.agents.items
    c.in_ok-controller.ensures (ap length c.nodes-nodes.ensures) c.in_ok-ports.ensures c.in_ok-agents.ensures

pub returns : goal.returns
returns c =
    begins_as_machine c.args.cluster.cluster c.args.ring (length c.nodes-nodes.result.now) c.in_ok-ports.ports c.in_ok-controller.controller c.in_ok-agents.agents.items
    c.in_ok-controller.ensures (ap length c.nodes-nodes.ensures) c.in_ok-ports.ensures c.in_ok-agents.ensures
