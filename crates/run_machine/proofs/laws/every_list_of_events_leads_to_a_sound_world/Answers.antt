use Rattle.run_machine.proofs.Worlds.{events_lead}
use Rattle.run_machine.proofs.laws.every_list_of_events_leads_to_a_sound_world.Goals as goal

pub returns : goal.returns
returns c =
    events_lead c.changes_keep_clusters.ensures.one c.changes_keep_clusters.ensures.all c.changes_leave_the_rest.ensures.nodes c.changes_leave_the_rest.ensures.unchanged
    c.streams_lead_on.ensures c.one_revision_is_the_policies_verdict.ensures
