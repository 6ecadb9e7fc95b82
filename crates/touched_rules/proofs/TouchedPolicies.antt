-- All changes of rules are those of the rules of the touched policies.
use Rattle.std.proofs.Common.{◌≡◌, List, [], ◌∷◌, ◌++◌, Bool, true, false, not, cond, Option, Some, None, if◌then◌else◌, filter, find, map, refl, sym, ap, ap₂, subst, ◌∙◌}
use Rattle.std.specs.List.{AllByRecursion, flat_map}
use Rattle.std.specs.declared.cmp.Ordering.{Ordering}
use Rattle.std.specs.declared.cmp.Ordering.TheVariants.{Less, Equal, Greater}
use Rattle.std.specs.Cmp.{IsTotalOrder}
use Rattle.std.specs.Ordering.{is_eq, ordering_reverse}
use Rattle.std.proofs.lemmas.List.Elements.{filter-append}
use Rattle.cl_types.specs.declared.keys.RuleKey.{RuleKey}
use Rattle.cl_types.specs.Ascending.{Ascends, found, put, sorted_by}
use Rattle.cl_types.specs.AscendingLaws.{ascends_filter, ascends_put, ascends_sorted, equal_maps, found_at, found_filter, found_put, passed}
use Rattle.cl_types.specs.ListLaws.{all_weaker}
use Rattle.cl_types.specs.OrderLaws.{rule_order_exact}
use Rattle.cl_types.specs.PolicyName.{PolicyName}
use Rattle.cl_types.specs.RuleOrder.{rule_order, rule_order_total}
use Rattle.watch_streams.specs.declared.net.NetRule.{NetRule}
use Rattle.watch_streams.specs.HeldEvaluation.{HeldMaps, held_policies, is_complete}
use Rattle.watch_streams.specs.InForce.{ArePartsOf, HeldRule, complete_rules, held_rule_key, held_rules, rules_of}
use Rattle.watch_streams.specs.Net.{NetPolicyData}
use Rattle.touched_rules.specs.Touched.{AreOwnRules, ChangesOfRulesAreOfTouchedPolicies, HasOwnRules, SameElsewhere, SameRule, SameRulesElsewhere, complete_rule_at, other_policies, touched_rules, under}
use Rattle.touched_rules.proofs.InForceAtAll.{some_in_force}
use Rattle.touched_rules.proofs.TouchedRules.{changes_are_under}

-- ---- sorted lists

module _ {T K : Type 0} (key : T → K) {cmp : K → K → Ordering} (o : IsTotalOrder cmp) where
  -- the first item with a key is the one that is found once all are sorted
  found_sorted : (k : K) (xs : List T) → found (λ y. cmp (key y) k) (sorted_by key cmp xs) ≡ find (λ y. is_eq (cmp (key y) k)) xs
  found_sorted k [] = refl
  found_sorted k (x ∷ xs) = found_put key o k x (sorted_by key cmp xs) ∙ ap (λ r. if is_eq (cmp (key x) k) then Some x else r) (found_sorted k xs)

  abbrev at : K → T → Ordering
  at k y = cmp (key y) k

  module _ (p : T → Bool) (tied : (x y : T) → cmp (key x) (key y) ≡ Equal → p x ≡ p y) where
    both_at : (k : K) (x y : T) → cmp (key x) k ≡ Equal → cmp (key y) k ≡ Equal → p y ≡ p x
    both_at k x y x_at y_at = tied y x (o.congr (key y) k (key x) y_at ∙ (o.antisymm k (key x) ∙ ap ordering_reverse x_at))

    -- a test of keys keeps an item that is put, or what was there
    filter_put : (x : T) (ys : List T) → Ascends key cmp ys → (b : Bool) → p x ≡ b → filter p (put (at (key x)) x ys) ≡ cond b (put (at (key x)) x (filter p ys)) (filter p ys)
    filter_put x ys up true is =
        equal_maps key o (filter p (put (at (key x)) x ys)) (put (at (key x)) x (filter p ys)) (ascends_filter key o p (put (at (key x)) x ys) (ascends_put key o x ys up)) (ascends_put key o x (filter p ys) (ascends_filter key o p ys up))
        (λ k.
        found_filter key o p k (put (at (key x)) x ys) (ascends_put key o x ys up)
        ∙ ap (passed p) (found_put key o k x ys)
        ∙ by_order (cmp (key x) k) (found (at k) ys)
        ∙ ap (λ r. if is_eq (cmp (key x) k) then Some x else r) (sym (found_filter key o p k ys up))
        ∙ sym (found_put key o k x (filter p ys)))
      where
        by_order : (r : Ordering) (f : Option T) → passed p (if is_eq r then Some x else f) ≡ (if is_eq r then Some x else passed p f)
        by_order Less f = refl
        by_order Equal f = ap (λ b. if b then Some x else None) is
        by_order Greater f = refl
    filter_put x ys up false is =
        equal_maps key o (filter p (put (at (key x)) x ys)) (filter p ys) (ascends_filter key o p (put (at (key x)) x ys) (ascends_put key o x ys up)) (ascends_filter key o p ys up)
        (λ k.
        found_filter key o p k (put (at (key x)) x ys) (ascends_put key o x ys up)
        ∙ ap (passed p) (found_put key o k x ys)
        ∙ by_order k (cmp (key x) k) refl (found (at k) ys) refl
        ∙ sym (found_filter key o p k ys up))
      where
        by_order : (k : K) (r : Ordering) → cmp (key x) k ≡ r → (f : Option T) → found (at k) ys ≡ f → passed p (if is_eq r then Some x else f) ≡ passed p f
        by_order k Less here f there = refl
        by_order k Greater here f there = refl
        by_order k Equal here None there = ap (λ b. if b then Some x else None) is
        by_order k Equal here (Some y) there =
            let no : p y ≡ false = both_at k x y here (found_at (at k) ys y there) ∙ is in
            ap (λ b. if b then Some x else None) is ∙ sym (ap (λ b. if b then Some y else None) no)

    filter_sorted : (xs : List T) → filter p (sorted_by key cmp xs) ≡ sorted_by key cmp (filter p xs)
    filter_sorted [] = refl
    filter_sorted (x ∷ xs) = filter_put x (sorted_by key cmp xs) (ascends_sorted key o xs) (p x) refl ∙ by_test (p x) (filter_sorted xs)
      where
        by_test : (b : Bool) → filter p (sorted_by key cmp xs) ≡ sorted_by key cmp (filter p xs)
            → cond b (put (at (key x)) x (filter p (sorted_by key cmp xs))) (filter p (sorted_by key cmp xs)) ≡ sorted_by key cmp (cond b (x ∷ filter p xs) (filter p xs))
        by_test true rest = ap (put (at (key x)) x) rest
        by_test false rest = rest

filter_swap : {T : Type 0} (p q : T → Bool) (xs : List T) → filter p (filter q xs) ≡ filter q (filter p xs)
filter_swap p q [] = refl
filter_swap {T = T} p q (x ∷ xs) = by_tests (p x) refl (q x) refl (filter_swap p q xs)
  where
    by_tests : (a : Bool) → p x ≡ a → (b : Bool) → q x ≡ b → filter p (filter q xs) ≡ filter q (filter p xs)
        → filter p (cond b (x ∷ filter q xs) (filter q xs)) ≡ filter q (cond a (x ∷ filter p xs) (filter p xs))
    by_tests true pe true qe rest = ap (λ (c : Bool). cond c (x ∷ filter p (filter q xs)) (filter p (filter q xs))) pe ∙ (ap (λ (z : List T). x ∷ z) rest ∙ sym (ap (λ (c : Bool). cond c (x ∷ filter q (filter p xs)) (filter q (filter p xs))) qe))
    by_tests true pe false qe rest = rest ∙ sym (ap (λ (c : Bool). cond c (x ∷ filter q (filter p xs)) (filter q (filter p xs))) qe)
    by_tests false pe true qe rest = ap (λ (c : Bool). cond c (x ∷ filter p (filter q xs)) (filter p (filter q xs))) pe ∙ rest
    by_tests false pe false qe rest = rest

-- ---- the rules of policies

abbrev with_key : RuleKey → HeldRule → Bool
with_key k x = is_eq (rule_order (held_rule_key x) k)

find_behind : {T : Type 0} (q : T → Bool) (xs ys zs : List T) → find q ys ≡ find q zs → find q (xs ++ ys) ≡ find q (xs ++ zs)
find_behind q [] ys zs same = same
find_behind q (x ∷ xs) ys zs same = ap (λ r. cond (q x) (Some x) r) (find_behind q xs ys zs same)

find_after : {T : Type 0} (q : T → Bool) (xs ys : List T) → AllByRecursion (λ x. q x ≡ false) xs → find q (xs ++ ys) ≡ find q ys
find_after q [] ys all = refl
find_after q (x ∷ xs) ys all = ap (λ b. cond b (Some x) (find q (xs ++ ys))) all.0 ∙ find_after q xs ys all.1

-- nothing is found among the items of those that aren't kept
find_kept : {A T : Type 0} (q : T → Bool) (f : A → List T) (keep : A → Bool) (xs : List A) → AllByRecursion (λ x. keep x ≡ false → AllByRecursion (λ y. q y ≡ false) (f x)) xs → find q (flat_map f xs) ≡ find q (flat_map f (filter keep xs))
find_kept q f keep [] all = refl
find_kept {A = A} q f keep (x ∷ xs) all = by_test (keep x) refl (find_kept q f keep xs all.1)
  where
    by_test : (b : Bool) → keep x ≡ b → find q (flat_map f xs) ≡ find q (flat_map f (filter keep xs)) → find q (f x ++ flat_map f xs) ≡ find q (flat_map f (cond b (x ∷ filter keep xs) (filter keep xs)))
    by_test true is rest = find_behind q (f x) (flat_map f xs) (flat_map f (filter keep xs)) rest
    by_test false is rest = find_after q (f x) (flat_map f xs) (all.0 is) ∙ rest

find_holds : {T : Type 0} (P : T → Type 0) (q : T → Bool) (xs : List T) (x : T) → AllByRecursion P xs → find q xs ≡ Some x → P x
find_holds P q [] x all e = cc
find_holds P q (y ∷ ys) x all e = by_test (q y) e (find_holds P q ys x all.1)
  where
    by_test : (b : Bool) → cond b (Some y) (find q ys) ≡ Some x → (find q ys ≡ Some x → P x) → P x
    by_test true e rest = let same : y ≡ x = cc in subst P same all.0
    by_test false e rest = rest e

not_false : (b : Bool) → not b ≡ false → b ≡ true
not_false true e = refl
not_false false e = cc

module _ (touched : PolicyName → Bool) where
  -- under a key of a policy that isn't touched no touched policy has a rule
  none_with : (k : RuleKey) → touched k.policy ≡ false → (p : NetPolicyData) → HasOwnRules p → not (touched p.key) ≡ false → AllByRecursion (λ x. with_key k x ≡ false) (rules_of p)
  none_with k free p own is = each p.rules own
    where
      differs : (r : NetRule) → r.key.policy ≡ p.key → (c : Ordering) → rule_order r.key k ≡ c → is_eq c ≡ false
      differs r mine Less e = refl
      differs r mine Greater e = refl
      differs r mine Equal e =
          let one : p.key ≡ k.policy = sym mine ∙ ap (λ (j : RuleKey). j.policy) (rule_order_exact r.key k e) in
          let yes : touched p.key ≡ true = not_false (touched p.key) is in
          let no : touched p.key ≡ false = ap touched one ∙ free in
          cc

      each : (rs : List NetRule) → AllByRecursion (λ (r : NetRule). r.key.policy ≡ p.key) rs → AllByRecursion (λ x. with_key k x ≡ false) (map (λ r. record { policy = p; rule = r }) rs)
      each [] all = tt
      each (r ∷ rs) all = (differs r all.0 (rule_order r.key k) refl, each rs all.1)

  -- so what is found is found among the rules of the other policies
  found_other : (h : HeldMaps) → AreOwnRules h → (k : RuleKey) → touched k.policy ≡ false → found (λ x. rule_order (held_rule_key x) k) (held_rules h) ≡ find (with_key k) (flat_map rules_of (other_policies touched h))
  found_other h own k free =
      found_sorted held_rule_key rule_order_total k (flat_map rules_of (held_policies h))
      ∙ find_kept (with_key k) rules_of (λ p. not (touched p.key)) (held_policies h) (all_weaker HasOwnRules (λ p. not (touched p.key) ≡ false → AllByRecursion (λ x. with_key k x ≡ false) (rules_of p)) (λ p mine. none_with k free p mine) (held_policies h) own)

  -- the touched rules are those of the touched policies
  rules_under : (p : NetPolicyData) → HasOwnRules p → filter (λ x. touched (held_rule_key x).policy) (rules_of p) ≡ cond (touched p.key) (rules_of p) []
  rules_under p own = each p.rules own (touched p.key) refl
    where
      each : (rs : List NetRule) → AllByRecursion (λ (r : NetRule). r.key.policy ≡ p.key) rs → (b : Bool) → touched p.key ≡ b → filter (λ x. touched (held_rule_key x).policy) (map (λ r. record { policy = p; rule = r }) rs) ≡ cond b (map (λ r. record { policy = p; rule = r }) rs) []
      each [] all true is = refl
      each [] all false is = refl
      each (r ∷ rs) all true is =
          let rest = filter (λ x. touched (held_rule_key x).policy) (map (λ r. record { policy = p; rule = r }) rs) in
          ap (λ b. cond b (record { policy = p; rule = r } ∷ rest) rest) (ap touched all.0 ∙ is) ∙ ap (λ zs. record { policy = p; rule = r } ∷ zs) (each rs all.1 true is)
      each (r ∷ rs) all false is =
          let rest = filter (λ x. touched (held_rule_key x).policy) (map (λ r. record { policy = p; rule = r }) rs) in
          ap (λ b. cond b (record { policy = p; rule = r } ∷ rest) rest) (ap touched all.0 ∙ is) ∙ each rs all.1 false is

  all_under : (ps : List NetPolicyData) → AllByRecursion HasOwnRules ps → filter (λ x. touched (held_rule_key x).policy) (flat_map rules_of ps) ≡ flat_map rules_of (filter (λ p. touched p.key) ps)
  all_under [] own = refl
  all_under (p ∷ ps) own =
      filter-append (λ x. touched (held_rule_key x).policy) (rules_of p) (flat_map rules_of ps) ∙ ap₂ ◌++◌ (rules_under p own.0) (all_under ps own.1) ∙ by_test (touched p.key)
    where
      by_test : (b : Bool) → cond b (rules_of p) [] ++ flat_map rules_of (filter (λ p. touched p.key) ps) ≡ flat_map rules_of (cond b (p ∷ filter (λ p. touched p.key) ps) (filter (λ p. touched p.key) ps))
      by_test true = refl
      by_test false = refl

  pub touched_are : (h : HeldMaps) → AreOwnRules h → under (λ k. touched k.policy) held_rule_key (complete_rules h) ≡ touched_rules touched h
  touched_are h own =
      let test : HeldRule → Bool = λ x. touched (held_rule_key x).policy in
      let complete : HeldRule → Bool = λ x. is_complete h x.policy x.rule in
      filter_swap test complete (held_rules h)
      ∙ ap (filter complete)
      (filter_sorted held_rule_key rule_order_total test (λ x y e. ap (λ (k : RuleKey). touched k.policy) (rule_order_exact (held_rule_key x) (held_rule_key y) e)) (flat_map rules_of (held_policies h))
      ∙ ap (sorted_by held_rule_key rule_order) (all_under (held_policies h) own))

passed_is : {T : Type 0} (p : T → Bool) (r : Option T) (x : T) → passed p r ≡ Some x → r ≡ Some x
passed_is p None x e = cc
passed_is p (Some y) x e = by_test (p y) e
  where
    by_test : (b : Bool) → (if b then Some y else None) ≡ Some x → Some y ≡ Some x
    by_test true e = e
    by_test false e = cc

module _ (touched : PolicyName → Bool) (old new : HeldMaps) (own : AreOwnRules old) (own_too : AreOwnRules new) (elsewhere : SameElsewhere touched old new) where
  abbrev held_at : HeldMaps → RuleKey → Option HeldRule
  held_at h k = found (λ x. rule_order (held_rule_key x) k) (held_rules h)

  abbrev complete_in : HeldMaps → HeldRule → Bool
  complete_in h x = is_complete h x.policy x.rule

  same_held : (k : RuleKey) → touched k.policy ≡ false → held_at old k ≡ held_at new k
  same_held k free = found_other touched old own k free ∙ ap (λ ps. find (with_key k) (flat_map rules_of ps)) elsewhere.policies ∙ sym (found_other touched new own_too k free)

  same_rule : (k : RuleKey) → touched k.policy ≡ false → (x : HeldRule) → held_at old k ≡ Some x → SameRule old new x
  same_rule k free x here = find_holds (SameRule old new) (with_key k) (flat_map rules_of (other_policies touched old)) x elsewhere.rules (sym (found_other touched old own k free) ∙ here)

  complete_at : (h : HeldMaps) (k : RuleKey) → complete_rule_at h k ≡ passed (complete_in h) (held_at h k)
  complete_at h k = found_filter held_rule_key rule_order_total (complete_in h) k (held_rules h) (ascends_sorted held_rule_key rule_order_total (flat_map rules_of (held_policies h)))

  pub same_rules : SameRulesElsewhere (λ k. touched k.policy) old new
  same_rules = record {
    rules = λ k free. complete_at old k ∙ (by_rule k free (held_at old k) refl ∙ (ap (passed (complete_in new)) (same_held k free) ∙ sym (complete_at new k)));
    parts = λ x parts free here is. (same_rule (held_rule_key x) free x (passed_is (complete_in old) (held_at old (held_rule_key x)) x (sym (complete_at old (held_rule_key x)) ∙ here))).parts parts is;
  }
    where
      by_rule : (k : RuleKey) → touched k.policy ≡ false → (r : Option HeldRule) → held_at old k ≡ r → passed (complete_in old) r ≡ passed (complete_in new) r
      by_rule k free None here = refl
      by_rule k free (Some x) here = ap (λ b. if b then Some x else None) (same_rule k free x here).complete

pub changes_are_touched : ChangesOfRulesAreOfTouchedPolicies
changes_are_touched touched old new were are forms own own_too elsewhere were_are are_are =
    let all = some_in_force old forms in
    changes_are_under (λ k. touched k.policy) old new all.0 were are (same_rules touched old new own own_too elsewhere) all.1
    (subst (λ (xs : List HeldRule). ArePartsOf old xs were) (sym (touched_are touched old own)) were_are)
    (subst (λ (xs : List HeldRule). ArePartsOf new xs are) (sym (touched_are touched new own_too)) are_are)
