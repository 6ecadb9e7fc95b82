use Rattle.held_maps.proofs.LeadingOn.{messages_lead_on}
use Rattle.held_maps.proofs.laws.taken_messages_lead_on.Goals as goal

pub returns : goal.returns
returns c = messages_lead_on c.streams_lead_on.ensures
