use Rattle.touched_rules.proofs.InForceAtAll.{some_in_force}
use Rattle.touched_rules.proofs.laws.rules_are_in_force.Goals as goal

pub returns : goal.returns
returns c = some_in_force
