use Rattle.std.proofs.Common.{◌≡◌, ◌∙◌, length, ap, subst, arith}
use Rattle.std.specs.List.{AllByRecursion}
use Rattle.label_select.specs.Selection.{IsNeed}
use Rattle.label_select.specs.Canonical.{need_order}
use Rattle.cl_types.specs.AscendingLaws.{all_sorted}
use Rattle.label_select.proofs.CanonicalNeeds.{need_order-exact, canonical-taken, canonical-is, meets_all-canonical}
use Rattle.label_select.proofs.canonical.canon.Goals as goal

pub sort_once-requires : goal.sort_once-requires
sort_once-requires c = need_order-exact

pub invariant_of-result : goal.invariant_of-result
invariant_of-result c =
    let none : length c.loop-need.needs ≡ 0 = omega (arith, (rw c.in_default.is at c.pop.ensures.cases).0, ap length c.vec_mut.ensures.value) in
    let is = canonical-taken c.args.needs c.loop-need.needs c.loop-need.sorted.items c.loop-need.invariant.taken none in
    rw (c.of.ensures, c.in_ok-sort_once.ensures, is)
    (canonical-is c.args.needs (subst (AllByRecursion IsNeed) is (all_sorted (λ n. n) need_order IsNeed c.loop-need.sorted.items c.loop-need.invariant.forms)))

pub returns-clause-form : goal.returns-clause-form
returns-clause-form c =
    let none : length c.loop-need.needs ≡ 0 = omega (arith, (rw c.in_default.is at c.pop.ensures.cases).0, ap length c.vec_mut.ensures.value) in
    let is = canonical-taken c.args.needs c.loop-need.needs c.loop-need.sorted.items c.loop-need.invariant.taken none in
    rw (c.of.ensures, c.in_ok-sort_once.ensures, is)
    (canonical-is c.args.needs (subst (AllByRecursion IsNeed) is (all_sorted (λ n. n) need_order IsNeed c.loop-need.sorted.items c.loop-need.invariant.forms)))

pub returns-clause-same : goal.returns-clause-same
returns-clause-same c = λ labels.
    let none : length c.loop-need.needs ≡ 0 = omega (arith, (rw c.in_default.is at c.pop.ensures.cases).0, ap length c.vec_mut.ensures.value) in
    rw (c.of.ensures, c.in_ok-sort_once.ensures, canonical-taken c.args.needs c.loop-need.needs _ c.loop-need.invariant.taken none) (meets_all-canonical labels c.args.needs)

pub returns-clause-sorted : goal.returns-clause-sorted
returns-clause-sorted c =
    let none : length c.loop-need.needs ≡ 0 = omega (arith, (rw c.in_default.is at c.pop.ensures.cases).0, ap length c.vec_mut.ensures.value) in
    c.of.ensures ∙ c.in_ok-sort_once.ensures ∙ canonical-taken c.args.needs c.loop-need.needs _ c.loop-need.invariant.taken none
