use Rattle.std.proofs.Common.{sym, subst}
use Rattle.priority_assign.specs.Rules.{IsLadder}
use Rattle.priority_assign.proofs.Kept.{IsLadder-nil}
use Rattle.priority_assign.proofs.ladder.Ladder.new.Goals as goal

pub invariant_of-result : goal.invariant_of-result
invariant_of-result c = subst IsLadder (sym c.new.ensures) IsLadder-nil
