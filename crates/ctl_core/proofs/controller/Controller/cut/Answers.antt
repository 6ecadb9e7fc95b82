use Rattle.node_streams.specs.Streams.{IsCut}
use Rattle.ctl_core.proofs.Beginning.{streams_keep}
use Rattle.ctl_core.proofs.controller.Controller.cut.Goals as goal

pub invariant_of-self : goal.invariant_of-self
invariant_of-self g c = streams_keep c.args.node.now c.args.stream (IsCut c.cut_at.result) _ c.cut_at.new.nodes.items _ _ c.self.invariant c.cut_at.ensures
