use Rattle.watch_streams.proofs.Projections.{projections_are}
use Rattle.watch_streams.proofs.laws.projections_are_maps.Goals as goal

pub returns : goal.returns
returns c = projections_are
