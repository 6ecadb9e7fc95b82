use Rattle.std.proofs.Common.{◌≡◌, subst, rules}
use Rattle.std.specs.List.{IsAllAdjacentAnswer}
use Rattle.std.specs.Ordering.{is_lt}
use Rattle.std.proofs.lemmas.Fn.{always_returns_same}
use Rattle.flow_tables.specs.Index.{clause_order}
use Rattle.flow_tables.proofs.Clauses.{ascends_tested, clause_order_total}
use Rattle.flow_tables.proofs.index.ascend.Goals as goal

pub returns : goal.returns
returns c = λ on.
    ascends_tested clause_order_total c.args.clauses.now
    (subst (λ b. IsAllAdjacentAnswer (λ x y t. t ≡ is_lt (clause_order x y)) c.args.clauses.now b) on
    (c.is_sorted_by.ensures.cases (λ x y. is_lt (clause_order x y)) (always_returns_same _ _ _ (λ a r f called. (search rules, search rules)))))
