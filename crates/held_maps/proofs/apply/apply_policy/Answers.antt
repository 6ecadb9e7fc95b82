use Rattle.held_maps.specs.Held.{policy_title, egress_title}
use Rattle.held_maps.proofs.StepLists.{fewer}
use Rattle.held_maps.proofs.apply.apply_policy.Goals as goal

pub returns-in-Remove-clause-policy_rows : goal.returns-in-Remove-clause-policy_rows
returns-in-Remove-clause-policy_rows c = λ more rows. c.remove.ensures.rows more (fewer policy_title more c.args.policies.now rows)

pub returns-in-Remove-clause-egress_rows : goal.returns-in-Remove-clause-egress_rows
returns-in-Remove-clause-egress_rows c = λ more rows. c.remove-in-Remove.ensures.rows more (fewer egress_title more c.args.egresses.now rows)
