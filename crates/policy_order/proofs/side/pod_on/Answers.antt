use Rattle.std.proofs.Common.{sym, ap, ◌∙◌, option_copied}
use Rattle.policy_order.proofs.OnNode.{on_it, elsewhere, nowhere}
use Rattle.policy_order.proofs.side.pod_on.Goals as goal

pub returns-then-is_on : goal.returns-then-is_on
returns-then-is_on c =
    on_it c.args.c.now.cluster.pods c.args.a c.args.node.now (option_copied c.pod_at.result) c.in-Some.pod.now c.pod_at.ensures.alone c.pod_at.ensures.pod (ap option_copied c.in-Some.is) (sym c.is_on.ensures ∙ c.if-is_on.true)

pub returns-else-is_on : goal.returns-else-is_on
returns-else-is_on c =
    elsewhere c.args.c.now.cluster.pods c.args.a c.args.node.now (option_copied c.pod_at.result) c.in-Some.pod.now c.pod_at.ensures.alone (ap option_copied c.in-Some.is) (sym c.is_on.ensures ∙ c.if-is_on.false)

pub returns-in-None : goal.returns-in-None
returns-in-None c = nowhere c.args.c.now.cluster.pods c.args.a c.args.node.now (option_copied c.pod_at.result) c.pod_at.ensures.alone (ap option_copied c.in-None.is)
