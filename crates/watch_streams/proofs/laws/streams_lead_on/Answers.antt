use Rattle.watch_streams.proofs.Streams.{streams_lead}
use Rattle.watch_streams.proofs.laws.streams_lead_on.Goals as goal

pub returns : goal.returns
returns c = streams_lead c.messages_lead_to_the_new_map.ensures.changes c.messages_lead_to_the_new_map.ensures.snapshots c.projections_are_maps.ensures
