use Rattle.touched_names.proofs.Over.{differences_are_over}
use Rattle.touched_names.proofs.laws.differences_are_over_touched_names.Goals as goal

pub returns : goal.returns
returns c = differences_are_over
