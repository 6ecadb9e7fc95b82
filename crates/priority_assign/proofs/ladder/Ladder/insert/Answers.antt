use Rattle.std.proofs.Common.{◌≡◌, ◌≢◌, ◌↔◌, [], sym, subst, ap, ◌∙◌, arith, None, length, ◌<◌}
use Rattle.std.proofs.lemmas.Result.{IfOk-weaker, on_ok_weaker}
use Rattle.std.specs.Option.{option_or}
use Rattle.cl_types.specs.declared.keys.RuleKey.{RuleKey}
use Rattle.priority_assign.specs.Rules.{IsLadder, number_of}
use Rattle.priority_assign.specs.Insertion.{inserted, relabelled, gap}
use Rattle.priority_assign.proofs.Others.{both_ok, number_of-inserted, length-inserted}
use Rattle.priority_assign.proofs.Kept.{IsLadder-either, relabelled-gap, none_from_is_none}
use Rattle.priority_assign.proofs.ladder.Ladder.insert.Goals as goal

pub invariant_of-self : goal.invariant_of-self
invariant_of-self c =
    let xs = c.vec_mut.result.now.items in
    let ladder = subst IsLadder (sym c.vec_mut.ensures.value) c.self.invariant in
    let same : xs ≡ c.args.self.now = c.vec_mut.ensures.value ∙ c.self.view_is in
    let absent : number_of xs c.args.k ≡ None = ap (λ zs. number_of zs c.args.k) same ∙ none_from_is_none (number_of c.args.self.now c.args.k) c.requires.absent in
    let few : length xs < 16000 = omega (arith, ap length same, c.requires.few) in
    IsLadder-either c.insert_rule.result xs c.args.k c.insert_rule.new.rules.items ladder absent few c.insert_rule.ensures.rules c.insert_rule.ensures.err

pub returns-clause-only_where_full : goal.returns-clause-only_where_full
returns-clause-only_where_full c =
    let xs = c.args.self.now in
    let k = c.args.k in
    let same : c.vec_mut.result.now.items ≡ xs = c.vec_mut.ensures.value ∙ c.self.view_is in
    let ladder = subst IsLadder c.self.view_is c.self.invariant in
    IfOk-weaker c.insert_rule.result (λ placed. placed.relabelled ≡ relabelled c.vec_mut.result.now.items k) (λ placed. (placed.relabelled ≢ []) ↔ (gap xs k ≡ 1))
    (λ placed is. relabelled-gap xs k placed.relabelled ladder c.requires.few (is ∙ ap (λ zs. relabelled zs k) same)) c.insert_rule.ensures.relabelled

pub returns-clause-others : goal.returns-clause-others
returns-clause-others c =
    let xs = c.args.self.now in
    let k = c.args.k in
    let ys = c.insert_rule.new.rules.items in
    let same : c.vec_mut.result.now.items ≡ xs = c.vec_mut.ensures.value ∙ c.self.view_is in
    let ladder = subst IsLadder c.self.view_is c.self.invariant in
    both_ok c.insert_rule.result (ys ≡ inserted c.vec_mut.result.now.items k) (λ placed. placed.relabelled ≡ relabelled c.vec_mut.result.now.items k)
    (λ placed. (j : RuleKey) → j ≢ k → number_of ys j ≡ option_or (number_of placed.relabelled j) (number_of xs j))
    c.insert_rule.ensures.rules c.insert_rule.ensures.relabelled
    (λ came placed told j other.
    ap (λ zs. number_of zs j) (came ∙ ap (λ zs. inserted zs k) same) ∙ number_of-inserted xs k j ladder c.requires.few other
    ∙ ap (λ zs. option_or (number_of zs j) (number_of xs j)) (sym (told ∙ ap (λ zs. relabelled zs k) same)))

pub returns-clause-count : goal.returns-clause-count
returns-clause-count c =
    let xs = c.args.self.now in
    let same : c.vec_mut.result.now.items ≡ xs = c.vec_mut.ensures.value ∙ c.self.view_is in
    on_ok_weaker c.insert_rule.result
    (λ (e : c.insert_rule.new.rules.items ≡ inserted c.vec_mut.result.now.items c.args.k). ap length (e ∙ ap (λ zs. inserted zs c.args.k) same) ∙ length-inserted xs c.args.k c.requires.few)
    c.insert_rule.ensures.rules

pub returns-clause-falls : goal.returns-clause-falls
returns-clause-falls c =
    let xs = c.vec_mut.result.now.items in
    let ladder = subst IsLadder (sym c.vec_mut.ensures.value) c.self.invariant in
    let same : xs ≡ c.args.self.now = c.vec_mut.ensures.value ∙ c.self.view_is in
    let absent : number_of xs c.args.k ≡ None = ap (λ zs. number_of zs c.args.k) same ∙ none_from_is_none (number_of c.args.self.now c.args.k) c.requires.absent in
    let few : length xs < 16000 = omega (arith, ap length same, c.requires.few) in
    IsLadder-either c.insert_rule.result xs c.args.k c.insert_rule.new.rules.items ladder absent few c.insert_rule.ensures.rules c.insert_rule.ensures.err
