use Rattle.std.proofs.Common.{rules}
use Rattle.priority_assign.specs.Rules.{is_before}
use Rattle.priority_assign.proofs.insertion.is_before.Goals as goal

pub returns : goal.returns
unfolding is_before
returns c = search rules
