use Rattle.node_streams.specs.Streams.{Begins}
use Rattle.ctl_core.proofs.Beginning.{one_stream, streams_keep}
use Rattle.ctl_core.proofs.controller.Controller.begin.Goals as goal

pub invariant_of-self : goal.invariant_of-self
invariant_of-self g c = streams_keep c.args.node.now c.args.stream (Begins g.P.Port.state g.P.Port.same c.args.m c.begin_at.result) _ c.begin_at.new.nodes.items _ _ c.self.invariant c.begin_at.ensures

pub returns : goal.returns
returns g c =
    one_stream c.args.node.now c.args.stream (Begins g.P.Port.state g.P.Port.same c.args.m c.begin_at.result) _ c.args.self.now c.begin_at.new.nodes.items c.self.view_is c.begin_at.ensures
