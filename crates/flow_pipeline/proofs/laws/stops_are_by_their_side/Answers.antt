use Rattle.flow_pipeline.proofs.WayLaws.{way-stops}
use Rattle.flow_pipeline.proofs.laws.stops_are_by_their_side.Goals as goal

pub returns : goal.returns
returns c = way-stops
