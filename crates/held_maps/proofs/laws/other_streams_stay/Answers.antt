use Rattle.held_maps.proofs.LeadingOn.{others_stay}
use Rattle.held_maps.proofs.laws.other_streams_stay.Goals as goal

pub returns : goal.returns
returns c = others_stay
