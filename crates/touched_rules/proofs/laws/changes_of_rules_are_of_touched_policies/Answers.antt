use Rattle.touched_rules.proofs.TouchedPolicies.{changes_are_touched}
use Rattle.touched_rules.proofs.laws.changes_of_rules_are_of_touched_policies.Goals as goal

pub returns : goal.returns
returns c = changes_are_touched
