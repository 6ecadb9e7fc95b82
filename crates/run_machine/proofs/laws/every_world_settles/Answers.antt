use Rattle.run_machine.proofs.Worlds.{every_settles}
use Rattle.run_machine.proofs.laws.every_world_settles.Goals as goal

pub returns : goal.returns
returns c =
    every_settles c.changes_keep_clusters.ensures.one c.changes_keep_clusters.ensures.all c.changes_leave_the_rest.ensures.nodes c.changes_leave_the_rest.ensures.unchanged
    c.streams_lead_on.ensures c.one_revision_is_the_policies_verdict.ensures
