use Rattle.group_index.proofs.Unchanged.{unchanged}
use Rattle.group_index.proofs.change.push_change.Goals as goal

pub returns-then-same : goal.returns-then-same
returns-then-same c = unchanged c.args.changes.now.items c.args.g.now c.args.old.now c.args.new.now (c.same.ensures.0 c.if-same.true)
