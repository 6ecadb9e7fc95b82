-- The first of some rules doesn't look at the order in which different policies stand, and a verdict reads no more of a rule
-- than agents are told.
use Rattle.std.proofs.Common.{◌≡◌, List, [], ◌∷◌, ◌++◌, map, Bool, true, false, not, Option, Some, None, option_map, if◌then◌else◌, refl, sym, ap, ◌∙◌}
use Rattle.std.specs.List.{AllByRecursion}
use Rattle.std.specs.declared.cmp.Ordering.{Ordering}
use Rattle.std.specs.declared.cmp.Ordering.TheVariants.{Less, Equal, Greater}
use Rattle.std.specs.Ordering.{ordering_then, nat_cmp, ordering_reverse, is_eq, is_gt}
use Rattle.std.proofs.lemmas.Cmp.{upto}
use Rattle.cl_types.specs.declared.keys.RuleKey.{RuleKey}
use Rattle.cl_types.specs.Judgement.{Judgement}
use Rattle.cl_types.specs.RuleOrder.{policy_order, rule_order, rule_order_total}
use Rattle.cluster_types.specs.declared.policy.Rule.{Rule}
use Rattle.cluster_types.specs.Evaluation.{rule_key, rule_action}
use Rattle.cluster_types.specs.declared.steps.Stage.{Stage}
use Rattle.cluster_types.specs.declared.steps.Stage.TheVariants.{Native, Kubernetes, Baseline}
use Rattle.cluster_types.specs.StepsLaws.{not_before}
use Rattle.cluster_types.specs.Steps.{earlier, first, decided_first, allowed_first, allowed_by_default, verdict_of}
use Rattle.watch_streams.specs.declared.net.NetRule.{NetRule}
use Rattle.watch_streams.specs.HeldEvaluation.{net_rule_key, net_rule_action}
use Rattle.watch_streams.specs.Projection.{net_rule}

-- ---- the order

-- rules of different policies differ
pub rules_differ : (k l : RuleKey) → policy_order k.policy l.policy ≡ Less → is_eq (rule_order k l) ≡ false
rules_differ k l less = by_cases (nat_cmp k.tier l.tier) (nat_cmp k.priority l.priority) (policy_order k.policy l.policy) _ less
  where
    by_cases : (a b c d : Ordering) → c ≡ Less → is_eq (ordering_then a (ordering_then b (ordering_then c d))) ≡ false
    by_cases Less b c d e = refl
    by_cases Equal Less c d e = refl
    by_cases Equal Equal c d e = ap (λ z. is_eq (ordering_then z d)) e
    by_cases Equal Greater c d e = refl
    by_cases Greater b c d e = refl

or_before : (k l : RuleKey) → is_eq (rule_order k l) ≡ false → is_gt (rule_order l k) ≡ not (is_gt (rule_order k l))
or_before k l = by_cases (rule_order k l) (rule_order l k) (rule_order_total.antisymm l k)
  where
    by_cases : (a b : Ordering) → b ≡ ordering_reverse a → is_eq a ≡ false → is_gt b ≡ not (is_gt a)
    by_cases Less b e h = ap is_gt e
    by_cases Equal b e h = cc
    by_cases Greater b e h = ap is_gt e

module _ {R : Type 0} (key : R → RuleKey) where
  abbrev pub Differ : R → R → Type 0
  Differ r s = is_eq (rule_order (key r) (key s)) ≡ false

  -- two that differ, each put before what comes, in either order
  swap_two : (r s : R) → Differ r s → earlier key r (Some s) ≡ earlier key s (Some r)
  swap_two r s apart = by_cases (is_gt (rule_order (key r) (key s))) (is_gt (rule_order (key s) (key r))) (or_before (key r) (key s) apart)
    where
      by_cases : (a b : Bool) → b ≡ not a → (if a then s else r) ≡ (if b then r else s)
      by_cases true true e = cc
      by_cases true false e = refl
      by_cases false true e = refl
      by_cases false false e = cc

  swap_one : (r s : R) → Differ r s → (a : Option R) → earlier key r (Some (earlier key s a)) ≡ earlier key s (Some (earlier key r a))
  swap_one r s apart None = swap_two r s apart
  swap_one r s apart (Some t) = by_cases (after s t) (after r t) (after r s) refl refl refl (or_before (key r) (key s) apart)
    where
      after : R → R → Bool
      after x y = is_gt (rule_order (key x) (key y))

      upto_both : (x y z : R) → after x y ≡ false → after y z ≡ false → after x z ≡ false
      upto_both x y z = upto rule_order_total (key x) (key y) (key z)

      of_two : (x y z : R) (a : Bool) → after x y ≡ a → earlier key x (Some y) ≡ (if a then y else x)
      of_two x y z a e = ap (λ c. if c then y else x) e

      by_cases : (a b c : Bool) → after s t ≡ a → after r t ≡ b → after r s ≡ c → after s r ≡ not (after r s) → earlier key r (Some (if a then t else s)) ≡ earlier key s (Some (if b then t else r))
      by_cases true true c st rt rs sr = of_two r t t true rt ∙ sym (of_two s t t true st)
      by_cases true false true st rt rs sr = let le = upto_both r t s rt (not_before (key s) (key t) st) in cc
      by_cases true false false st rt rs sr = of_two r t t false rt ∙ sym (of_two s r t true (sr ∙ ap not rs))
      by_cases false true true st rt rs sr = of_two r s t true rs ∙ sym (of_two s t t false st)
      by_cases false true false st rt rs sr = let le = upto_both s t r st (not_before (key r) (key t) rt) in let gt : after s r ≡ true = sr ∙ ap not rs in cc
      by_cases false false c st rt rs sr = swap_two r s apart

  -- some rules before what comes
  abbrev pub into : List R → Option R → Option R
  into [] a = a
  into (r ∷ rs) a = Some (earlier key r (into rs a))

  pub first-append : (xs ys : List R) → first key (xs ++ ys) ≡ into xs (first key ys)
  first-append [] ys = refl
  first-append (x ∷ xs) ys = ap (λ z. Some (earlier key x z)) (first-append xs ys)

  swap_in : (r : R) (ys : List R) → AllByRecursion (Differ r) ys → (a : Option R) → Some (earlier key r (into ys a)) ≡ into ys (Some (earlier key r a))
  swap_in r [] all a = refl
  swap_in r (y ∷ ys) all a = ap Some (swap_one r y all.0 (into ys a)) ∙ ap (λ z. Some (earlier key y z)) (swap_in r ys all.1 a)

  pub into-swap : (xs ys : List R) → AllByRecursion (λ x. AllByRecursion (Differ x) ys) xs → (a : Option R) → into xs (into ys a) ≡ into ys (into xs a)
  into-swap [] ys all a = refl
  into-swap (x ∷ xs) ys all a = ap (λ z. Some (earlier key x z)) (into-swap xs ys all.1 a) ∙ swap_in x ys all.0 (into xs a)

-- ---- what agents are told

first-map : (rs : List Rule) → first net_rule_key (map net_rule rs) ≡ option_map net_rule (first rule_key rs)
first-map [] = refl
first-map (r ∷ rs) = ap (λ z. Some (earlier net_rule_key (net_rule r) z)) (first-map rs) ∙ ap Some (of_rule (first rule_key rs))
  where
    of_rule : (a : Option Rule) → earlier net_rule_key (net_rule r) (option_map net_rule a) ≡ net_rule (earlier rule_key r a)
    of_rule None = refl
    of_rule (Some s) = by_cases (is_gt (rule_order r.key s.key))
      where
        by_cases : (b : Bool) → (if b then net_rule s else net_rule r) ≡ net_rule (if b then s else r)
        by_cases true = refl
        by_cases false = refl

decided-map : (a : Option Rule) (j : Judgement) → decided_first net_rule_key net_rule_action (option_map net_rule a) j ≡ decided_first rule_key rule_action a j
decided-map None j = refl
decided-map (Some r) j = refl

allowed-map : (a : Option Rule) → allowed_first net_rule_key (option_map net_rule a) ≡ allowed_first rule_key a
allowed-map None = refl
allowed-map (Some r) = refl

-- a verdict looks at the first rule of each stage alone, and at what agents are told of it
pub verdict_told : (told : Stage → List NetRule) (rules : Stage → List Rule) (iso isolated : Bool)
    → ((stage : Stage) → first net_rule_key (told stage) ≡ first net_rule_key (map net_rule (rules stage))) → iso ≡ isolated
    → verdict_of net_rule_key net_rule_action told iso ≡ verdict_of rule_key rule_action rules isolated
verdict_told told rules iso isolated same e = (λ i. of_firsts (firsts Native i) (firsts Kubernetes i) (firsts Baseline i) (e i)) ∙ by_cases isolated
  where
    firsts : (stage : Stage) → first net_rule_key (told stage) ≡ option_map net_rule (first rule_key (rules stage))
    firsts stage = same stage ∙ first-map (rules stage)

    of_firsts : Option NetRule → Option NetRule → Option NetRule → Bool → Judgement
    of_firsts a k b iso =
        decided_first net_rule_key net_rule_action a
        (if iso then allowed_first net_rule_key k else decided_first net_rule_key net_rule_action b allowed_by_default)

    at : Stage → Option Rule
    at stage = first rule_key (rules stage)

    told_at : Stage → Option NetRule
    told_at stage = option_map net_rule (at stage)

    by_cases : (iso : Bool) → of_firsts (told_at Native) (told_at Kubernetes) (told_at Baseline) iso ≡ verdict_of rule_key rule_action rules iso
    by_cases true = decided-map (at Native) (allowed_first net_rule_key (told_at Kubernetes)) ∙ ap (decided_first rule_key rule_action (at Native)) (allowed-map (at Kubernetes))
    by_cases false =
        decided-map (at Native) (decided_first net_rule_key net_rule_action (told_at Baseline) allowed_by_default)
        ∙ ap (decided_first rule_key rule_action (at Native)) (decided-map (at Baseline) allowed_by_default)
