use Rattle.std.proofs.Common.{◌≡◌, ◌∙◌, ap, sym, subst, rules, arith, length}
use Rattle.std.specs.Prelude.{remove, IsSome}
use Rattle.priority_assign.specs.Rules.{IsLadder, place_of, number_of, without}
use Rattle.priority_assign.proofs.Looked.{place_of-there, without-at_place, IsLadder-without}
use Rattle.priority_assign.proofs.Others.{number_of-gone, number_of-stays}
use Rattle.priority_assign.proofs.ladder.Ladder.remove.Goals as goal

pub remove-requires : goal.remove-requires
remove-requires c =
    let xs = c.self.inside.rules in
    let there = subst (λ zs. IsSome (number_of zs c.args.k.now)) (sym c.self.view_is) c.requires.there in
    let within = place_of-there xs c.args.k.now c.self.invariant.ordered there in
    let here : c.place_of-place.result ≡ place_of xs c.args.k.now = search rules in
    omega (arith, within, here, ap length c.vec_mut.ensures.value)

pub returns-clause-rules : goal.returns-clause-rules
returns-clause-rules c =
    let xs = c.self.inside.rules in
    let k = c.args.k.now in
    let there = subst (λ zs. IsSome (number_of zs k)) (sym c.self.view_is) c.requires.there in
    let here : c.place_of-place.result ≡ place_of xs k = search rules in
    c.remove.ensures.items ∙ (λ i. remove (c.vec_mut.ensures.value i) (here i)) ∙ sym (without-at_place xs k c.self.invariant.ordered there) ∙ ap (λ zs. without zs k) c.self.view_is

pub invariant_of-self : goal.invariant_of-self
invariant_of-self c =
    let xs = c.self.inside.rules in
    let k = c.args.k.now in
    let there = subst (λ zs. IsSome (number_of zs k)) (sym c.self.view_is) c.requires.there in
    let here : c.place_of-place.result ≡ place_of xs k = search rules in
    let out = c.remove.ensures.items ∙ (λ i. remove (c.vec_mut.ensures.value i) (here i)) ∙ sym (without-at_place xs k c.self.invariant.ordered there) in
    subst IsLadder (sym out) (IsLadder-without xs k c.self.invariant there)

pub returns-clause-gone : goal.returns-clause-gone
returns-clause-gone c =
    let xs = c.self.inside.rules in
    let k = c.args.k.now in
    let there = subst (λ zs. IsSome (number_of zs k)) (sym c.self.view_is) c.requires.there in
    let here : c.place_of-place.result ≡ place_of xs k = search rules in
    let out = c.remove.ensures.items ∙ (λ i. remove (c.vec_mut.ensures.value i) (here i)) ∙ sym (without-at_place xs k c.self.invariant.ordered there) in
    ap (λ zs. number_of zs k) out ∙ number_of-gone xs k

pub returns-clause-others : goal.returns-clause-others
returns-clause-others c = λ j other.
    let xs = c.self.inside.rules in
    let k = c.args.k.now in
    let there = subst (λ zs. IsSome (number_of zs k)) (sym c.self.view_is) c.requires.there in
    let here : c.place_of-place.result ≡ place_of xs k = search rules in
    let out = c.remove.ensures.items ∙ (λ i. remove (c.vec_mut.ensures.value i) (here i)) ∙ sym (without-at_place xs k c.self.invariant.ordered there) in
    ap (λ zs. number_of zs j) out ∙ number_of-stays xs k j other ∙ ap (λ zs. number_of zs j) c.self.view_is

pub returns-clause-falls : goal.returns-clause-falls
returns-clause-falls c =
    let xs = c.self.inside.rules in
    let k = c.args.k.now in
    let there = subst (λ zs. IsSome (number_of zs k)) (sym c.self.view_is) c.requires.there in
    let here : c.place_of-place.result ≡ place_of xs k = search rules in
    let out = c.remove.ensures.items ∙ (λ i. remove (c.vec_mut.ensures.value i) (here i)) ∙ sym (without-at_place xs k c.self.invariant.ordered there) in
    subst IsLadder (sym out) (IsLadder-without xs k c.self.invariant there)
