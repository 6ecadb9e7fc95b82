use Rattle.std.proofs.Common.{rules}
use Rattle.priority_assign.specs.Rules.{is_rule}
use Rattle.priority_assign.proofs.insertion.is_rule.Goals as goal

pub returns : goal.returns
unfolding is_rule
returns c = search rules
