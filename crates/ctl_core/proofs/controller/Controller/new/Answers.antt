use Rattle.ctl_core.proofs.Beginning.{begins_with}
use Rattle.ctl_core.proofs.controller.Controller.new.Goals as goal

pub invariant_of-result : goal.invariant_of-result
invariant_of-result g c =
    begins_with c.args.cluster.cluster c.fix_nodes.new.self.cluster c.in_ok-groups.groups _ c.args.ports c.in_ok-nodes.nodes.items c.nodes.result.now _ _
    c.requires.alone c.requires.ports c.fix_nodes.ensures c.keeps_its_form.ensures.cluster c.nodes.ensures c.in_ok-nodes.ensures c.in_ok-groups.ensures c.in_ok-copy.ensures c.in_ok-new.ensures
