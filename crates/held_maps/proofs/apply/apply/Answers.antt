use Rattle.watch_streams.specs.Names.{object_text}
use Rattle.held_maps.proofs.StepLists.{fewer}
use Rattle.held_maps.proofs.apply.apply.Goals as goal

pub returns-in-Remove-clause-rows : goal.returns-in-Remove-clause-rows
returns-in-Remove-clause-rows c = λ more rows. c.remove.ensures.rows more (fewer object_text more c.args.rows.now rows)
