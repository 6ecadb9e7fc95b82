use Rattle.touched_names.proofs.Elsewhere.{touched_tell}
use Rattle.touched_names.proofs.laws.touched_names_tell_all.Goals as goal

pub returns : goal.returns
returns c = touched_tell c.differences_are_over_touched_names.ensures c.names_stand_alone.ensures c.projections_are_maps.ensures
