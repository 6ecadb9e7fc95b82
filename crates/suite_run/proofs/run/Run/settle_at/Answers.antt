use Rattle.suite_run.proofs.Leaving.{named_listed}
use Rattle.suite_run.proofs.run.Run.settle_at.Goals as goal

pub settle_node-requires : goal.settle_node-requires
settle_node-requires c = named_listed c.in_ok-node.node c.args.self.now.sites c.args.i c.in_ok-node.ensures
