use Rattle.node_streams.specs.Streams.{TakesFrom}
use Rattle.ctl_core.proofs.Beginning.{streams_keep}
use Rattle.ctl_core.proofs.controller.Controller+QueuePort.take.Goals as goal

pub invariant_of-self : goal.invariant_of-self
invariant_of-self c = streams_keep c.args.node.now c.args.stream (TakesFrom c.take_at.result) _ c.take_at.new.nodes.items _ _ c.self.invariant c.take_at.ensures
