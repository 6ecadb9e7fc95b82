use Rattle.touched_rules.proofs.OneInForce.{rules_one}
use Rattle.touched_rules.proofs.laws.rules_in_force_are_one.Goals as goal

pub returns : goal.returns
returns c = rules_one
