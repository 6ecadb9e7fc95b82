-- The first of some rules is one of them, and none is before it.
use Rattle.std.proofs.Common.{◌≡◌, List, [], ◌∷◌, Bool, true, false, Option, Some, None, if◌then◌else◌, refl, sym, ◌∙◌, ◌↔◌, suc, subst, arith}
use Rattle.std.specs.List.{Contains, AllByRecursion}
use Rattle.std.specs.Ordering.{is_gt}
use Rattle.std.proofs.lemmas.Cmp.{upto}
use Rattle.cl_types.specs.declared.keys.RuleKey.{RuleKey}
use Rattle.cl_types.specs.RuleOrder.{rule_order, rule_order_total}
use Rattle.cl_types.specs.ListLaws.{all_weaker}
use Rattle.cluster_types.specs.StepsLaws.{not_before}
use Rattle.cluster_types.specs.Steps.{earlier, first}

not_before_itself : (k : RuleKey) → is_gt (rule_order k k) ≡ false
not_before_itself k = by_cases (is_gt (rule_order k k)) refl
  where
    by_cases : (b : Bool) → is_gt (rule_order k k) ≡ b → b ≡ false
    by_cases false e = refl
    by_cases true e = sym e ∙ not_before k k e

module _ {R : Type 0} (key : R → RuleKey) where
  abbrev NotBefore : R → R → Type 0
  NotBefore x r = is_gt (rule_order (key x) (key r)) ≡ false

  some_one : {x y : R} → Some x ≡ Some y → x ≡ y
  some_one e = cc

  pub first_none : (rs : List R) → (first key rs ≡ None) ↔ (rs ≡ [])
  first_none [] = (λ e. refl, λ e. refl)
  first_none (r ∷ rs) = (λ e. cc, λ e. cc)

  here : (x y : R) (xs : List R) → y ≡ x → Contains (y ∷ xs) x
  here x y xs e = (0, omega arith, e)

  there : (x y : R) (xs : List R) → Contains xs x → Contains (y ∷ xs) x
  there x y xs c = (suc c.0, omega (arith, c.1), c.2)

  -- the first of r and others is r, or the first of the others
  one_of_two : (r x : R) (rs : List R) (o : Option R) → earlier key r o ≡ x → ((s : R) → o ≡ Some s → Contains rs s) → Contains (r ∷ rs) x
  one_of_two r x rs None e among = here x r rs e
  one_of_two r x rs (Some s) e among = by_test (is_gt (rule_order (key r) (key s))) e
    where
      by_test : (b : Bool) → (if b then s else r) ≡ x → Contains (r ∷ rs) x
      by_test true it = there x r rs (subst (Contains rs) it (among s refl))
      by_test false it = here x r rs it

  pub first_among : (rs : List R) (x : R) → first key rs ≡ Some x → Contains rs x
  first_among [] x e = cc
  first_among (r ∷ rs) x e = one_of_two r x rs (first key rs) (some_one e) (λ s is. first_among rs s is)

  least_of_two : (r x : R) (rs : List R) (o : Option R) → first key rs ≡ o → earlier key r o ≡ x → ((s : R) → o ≡ Some s → AllByRecursion (NotBefore s) rs) → AllByRecursion (NotBefore x) (r ∷ rs)
  least_of_two r x rs None is e least =
      (subst (λ z. NotBefore z r) e (not_before_itself (key r)), subst (AllByRecursion (NotBefore x)) (sym ((first_none rs).0 is)) tt)
  least_of_two r x rs (Some s) is e least = by_test (is_gt (rule_order (key r) (key s))) refl e
    where
      by_test : (b : Bool) → is_gt (rule_order (key r) (key s)) ≡ b → (if b then s else r) ≡ x → AllByRecursion (NotBefore x) (r ∷ rs)
      by_test true gt it = subst (λ z. AllByRecursion (NotBefore z) (r ∷ rs)) it (not_before (key r) (key s) gt, least s refl)
      by_test false gt it =
          subst (λ z. AllByRecursion (NotBefore z) (r ∷ rs)) it
          (not_before_itself (key r), all_weaker (NotBefore s) (NotBefore r) (λ y sy. upto rule_order_total (key r) (key s) (key y) gt sy) rs (least s refl))

  pub first_least : (rs : List R) (x : R) → first key rs ≡ Some x → AllByRecursion (NotBefore x) rs
  first_least [] x e = tt
  first_least (r ∷ rs) x e = least_of_two r x rs (first key rs) refl (some_one e) (λ s is. first_least rs s is)
