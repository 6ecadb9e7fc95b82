use Rattle.touched_rules.proofs.TouchedRules.{changes_are_under}
use Rattle.touched_rules.proofs.laws.changes_of_rules_are_under_touched_keys.Goals as goal

pub returns : goal.returns
returns c = changes_are_under
