use Rattle.std.proofs.Common.{ap, ◌∙◌}
use Rattle.ctl_core.proofs.Beginning.{begun}
use Rattle.ctl_core.proofs.controller.Controller.rejoin.Goals as goal

pub returns : goal.returns
returns g c = (
  ap (λ d. d.revision) (c.self.view_is ∙ c.begin.ensures.rest),
  begun g.P.Port.state g.P.Port.same c.args.node.now c.args.stream c.in_ok-m.m _ c.begin.result c.args.self.now c.begin.new.self c.in_ok-m.ensures c.if-not-begin.false c.begin.ensures,
)
