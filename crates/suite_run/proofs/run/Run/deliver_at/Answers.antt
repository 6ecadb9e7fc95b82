use Rattle.suite_run.proofs.Leaving.{named_listed}
use Rattle.suite_run.proofs.run.Run.deliver_at.Goals as goal

pub deliver_node-requires : goal.deliver_node-requires
deliver_node-requires c = named_listed c.in_ok-node.node c.args.self.now.sites c.args.i c.in_ok-node.ensures
