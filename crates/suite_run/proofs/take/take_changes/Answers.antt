use Rattle.suite_run.specs.declared.item.Item.TheVariants.{Objects}
use Rattle.suite_run.proofs.take.take_changes.Goals as goal

pub returns : goal.returns
returns c = c.with_block.ensures (Objects c.args.changes) c.args.world c.in_ok-told.ensures
