use Rattle.std.proofs.Common.{◌≡◌, ◌≤◌, ◌∙◌, ap, sym, subst, rules, arith, length, Some, refl}
use Rattle.std.specs.List.{slice_get}
use Rattle.std.proofs.lemmas.Option.{slice_get_read}
use Rattle.priority_assign.specs.Rules.{IsLadder, place_of}
use Rattle.priority_assign.proofs.Looked.{number_of-past, number_of-here, number_of-other}
use Rattle.priority_assign.proofs.ladder.Ladder.number.Goals as goal

pub returns-in_err-rule-clause-number : goal.returns-in_err-rule-clause-number
returns-in_err-rule-clause-number c =
    let xs = c.args.self.now in
    let k = c.args.k.now in
    let ladder = subst IsLadder c.self.view_is c.self.invariant in
    let here : c.place_of-place.result ≡ place_of xs k = search rules in
    let past : length xs ≤ c.place_of-place.result = omega (arith, c.in_err-rule.ensures.lookup.3, ap length (c.as_slice-2.ensures ∙ c.self.view_is)) in
    c.from_residual.ensures ∙ sym (number_of-past xs k c.place_of-place.result ladder.ordered here past)

pub returns-then-is_rule-clause-number : goal.returns-then-is_rule-clause-number
returns-then-is_rule-clause-number c =
    let xs = c.args.self.now in
    let k = c.args.k.now in
    let ladder = subst IsLadder c.self.view_is c.self.invariant in
    let here : c.place_of-place.result ≡ place_of xs k = search rules in
    let it : slice_get xs c.place_of-place.result ≡ Some c.in_ok-rule.rule.now =
    ap (λ zs. slice_get zs c.place_of-place.result) (sym (c.as_slice-2.ensures ∙ c.self.view_is)) ∙ slice_get_read c.as_slice-2.result.now (length c.as_slice-2.result.now) c.place_of-place.result c.in_ok-rule.rule.now refl c.in_ok-rule.ensures.lookup.3.0 c.in_ok-rule.ensures.lookup.1 in
    sym (number_of-here xs k c.place_of-place.result c.in_ok-rule.rule.now ladder.ordered here it (sym c.is_rule.ensures ∙ c.if-is_rule.true))

pub returns-else-is_rule-clause-number : goal.returns-else-is_rule-clause-number
returns-else-is_rule-clause-number c =
    let xs = c.args.self.now in
    let k = c.args.k.now in
    let ladder = subst IsLadder c.self.view_is c.self.invariant in
    let here : c.place_of-place.result ≡ place_of xs k = search rules in
    let it : slice_get xs c.place_of-place.result ≡ Some c.in_ok-rule.rule.now =
    ap (λ zs. slice_get zs c.place_of-place.result) (sym (c.as_slice-2.ensures ∙ c.self.view_is)) ∙ slice_get_read c.as_slice-2.result.now (length c.as_slice-2.result.now) c.place_of-place.result c.in_ok-rule.rule.now refl c.in_ok-rule.ensures.lookup.3.0 c.in_ok-rule.ensures.lookup.1 in
    sym (number_of-other xs k c.place_of-place.result c.in_ok-rule.rule.now ladder.ordered here it (sym c.is_rule.ensures ∙ c.if-is_rule.false))
