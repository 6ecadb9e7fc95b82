-- What an agent finds over the policies that it holds doesn't look at their order.
use Rattle.std.proofs.Common.{◌≡◌, List, [], ◌∷◌, ◌++◌, map, filter, flat_map, Bool, false, ◌||◌, Option, None, refl, sym, ap, subst, ◌∙◌}
use Rattle.std.specs.List.{AllByRecursion, list_any}
use Rattle.std.specs.declared.cmp.Ordering.{Ordering}
use Rattle.std.specs.declared.cmp.Ordering.TheVariants.{Less, Equal, Greater}
use Rattle.std.specs.Ordering.{match_ordering}
use Rattle.std.proofs.lemmas.Cmp.{tied_itself}
use Rattle.cl_types.specs.Ascending.{Ascends, put}
use Rattle.cl_types.specs.PolicyName.{PolicyName, IsPolicyName}
use Rattle.cl_types.specs.RuleOrder.{policy_order, policy_order_total}
use Rattle.cl_types.specs.Written.{policy_text}
use Rattle.cluster_types.specs.Egress.{EgressData}
use Rattle.cluster_types.specs.declared.policy.Rule.{Rule}
use Rattle.cluster_types.specs.Policy.{PolicyData, IsRuleOf}
use Rattle.cluster_types.specs.Steps.{first}
use Rattle.watch_streams.specs.declared.message.StreamObject.{StreamObject}
use Rattle.watch_streams.specs.declared.message.StreamObject.TheVariants as object
use Rattle.watch_streams.specs.declared.net.NetRule.{NetRule}
use Rattle.watch_streams.specs.HeldEvaluation.{policy_in, net_rule_key}
use Rattle.cluster_types.specs.Whole.{IsWholePolicy}
use Rattle.watch_streams.specs.Names.{at_text, by_name}
use Rattle.watch_streams.specs.Net.{NetPolicyData}
use Rattle.watch_streams.specs.Projection.{net_rule, net_policy, net_egress}
use Rattle.watch_streams.specs.MapLaws.{all_by_name}
use Rattle.watch_streams.proofs.FirstRules.{Differ, into, first-append, into-swap, rules_differ}
use Rattle.cl_types.specs.OrderLaws.{text_order_exact}
use Rattle.cl_types.specs.ListLaws.{all_weaker, all_filter, or_swap}
use Rattle.watch_streams.specs.OneOfAll.{all_of, all_of_both, all_map, all_append}

-- ---- steps over a list, from its end

abbrev over : {T A : Type 0} → (T → A → A) → A → List T → A
over step a [] = a
over step a (x ∷ xs) = step x (over step a xs)

-- the step of x may come after that of y or before it, and may take its place where y stands at x's key
record GoesBefore {T A : Type 0} (step : T → A → A) (at : T → Ordering) (x y : T) : Type 0 where
  swap : (a : A) → step x (step y a) ≡ step y (step x a)
  same : at y ≡ Equal → (a : A) → step x (step y a) ≡ step x a

over-put : {T A : Type 0} (step : T → A → A) (at : T → Ordering) (x : T) (a : A) (xs : List T) → AllByRecursion (GoesBefore step at x) xs → over step a (put at x xs) ≡ step x (over step a xs)
over-put step at x a [] all = refl
over-put step at x a (y ∷ ys) all = by_cases (at y) refl (over-put step at x a ys all.1)
  where
    by_cases : (r : Ordering) → at y ≡ r → over step a (put at x ys) ≡ step x (over step a ys) → over step a (match_ordering r (y ∷ put at x ys) (x ∷ ys) (x ∷ y ∷ ys)) ≡ step x (step y (over step a ys))
    by_cases Less is later = ap (step y) later ∙ sym (all.0.swap (over step a ys))
    by_cases Equal is later = sym (all.0.same is (over step a ys))
    by_cases Greater is later = refl

list_any-over : {T : Type 0} (p : T → Bool) (xs : List T) → list_any p xs ≡ over (λ x b. p x || b) false xs
list_any-over p [] = refl
list_any-over p (x ∷ xs) = ap (λ b. p x || b) (list_any-over p xs)

first-over : {T : Type 0} (f : T → List NetRule) (xs : List T) → first net_rule_key (flat_map f xs) ≡ over (λ x a. into net_rule_key (f x) a) None xs
first-over f [] = refl
first-over f (x ∷ xs) = first-append net_rule_key (f x) (flat_map f xs) ∙ ap (into net_rule_key (f x)) (first-over f xs)

-- ---- policies and Egresses as they are held

abbrev policy_object : PolicyData → StreamObject
policy_object p = object.Policy (net_policy p)

abbrev egress_object : EgressData → StreamObject
egress_object e = object.Egress (net_egress e)

-- no two policies have one text
abbrev pub PolicyTextsDiffer : Type 0
PolicyTextsDiffer =
    (a b : PolicyName) → IsPolicyName a.kind a.namespace a.name → IsPolicyName b.kind b.namespace b.name → policy_text a ≡ policy_text b → a ≡ b

module _ (differ : PolicyTextsDiffer) where
  text_differs : (p r : PolicyData) → IsWholePolicy p → IsWholePolicy r → policy_order p.key r.key ≡ Less → at_text (policy_text p.key) (policy_object r) ≡ Equal → ⊥
  text_differs p r is_p is_r less e =
      let same : r.key ≡ p.key = differ r.key p.key is_r.name is_p.name (text_order_exact (policy_text r.key) (policy_text p.key) e) in
      let tied = tied_itself policy_order_total p.key in
      let less_itself : policy_order p.key p.key ≡ Less = subst (λ k. policy_order p.key k ≡ Less) same less in
      apart (sym less_itself ∙ tied)
    where
      apart : Less ≡ Equal → ⊥
      apart e = cc

  module _ {A : Type 0} (step : NetPolicyData → A → A) (a : A)
      (swaps : (p r : PolicyData) → IsWholePolicy p → IsWholePolicy r → policy_order p.key r.key ≡ Less → (b : A) → step (net_policy p) (step (net_policy r) b) ≡ step (net_policy r) (step (net_policy p) b)) where
    abbrev held_step : StreamObject → A → A
    held_step (object.Policy p) b = step p b
    held_step (object.Egress e) b = b
    held_step (object.Group g members) b = b

    over-held : (os : List StreamObject) → over step a (flat_map policy_in os) ≡ over held_step a os
    over-held [] = refl
    over-held (object.Policy p ∷ os) = ap (step p) (over-held os)
    over-held (object.Egress e ∷ os) = over-held os
    over-held (object.Group g members ∷ os) = over-held os

    over-idle : (os : List StreamObject) → AllByRecursion (λ o. (b : A) → held_step o b ≡ b) os → over held_step a os ≡ a
    over-idle [] all = refl
    over-idle (o ∷ os) all = all.0 (over held_step a os) ∙ over-idle os all.1

    over-objects : (ps : List PolicyData) (es : List EgressData) → AllByRecursion IsWholePolicy ps → Ascends (λ (p : PolicyData). p.key) policy_order ps
        → over held_step a (by_name (map policy_object ps ++ map egress_object es)) ≡ over (λ p. step (net_policy p)) a ps
    over-objects [] es whole up =
        over-idle (by_name (map egress_object es)) (all_by_name _ (map egress_object es) (all_map (λ o. (b : A) → held_step o b ≡ b) egress_object es (all_of _ (λ e b. refl) es)))
    over-objects (p ∷ ps) es whole up =
        over-put held_step at (policy_object p) a (by_name others) (all_by_name Later others (all_append Later (map policy_object ps) (map egress_object es) policies egresses))
        ∙ ap (step (net_policy p)) (over-objects ps es whole.1 up.1)
      where
        others : List StreamObject
        others = map policy_object ps ++ map egress_object es

        at : StreamObject → Ordering
        at = at_text (policy_text p.key)

        Later : StreamObject → Type 0
        Later = GoesBefore held_step at (policy_object p)

        policy : (r : PolicyData) → IsWholePolicy r → policy_order p.key r.key ≡ Less → Later (policy_object r)
        policy r is less = record { swap = swaps p r whole.0 is less; same = λ e. absurd (text_differs p r whole.0 is less e) }

        policies : AllByRecursion Later (map policy_object ps)
        policies = all_map Later policy_object ps (all_of_both IsWholePolicy (λ r. policy_order p.key r.key ≡ Less) (λ r. Later (policy_object r)) policy ps whole.1 up.0)

        egresses : AllByRecursion Later (map egress_object es)
        egresses = all_map Later egress_object es (all_of (λ e. Later (egress_object e)) (λ e. record { swap = λ b. refl; same = λ t b. refl }) es)

    -- steps over the policies that are held are steps over these policies
    over-policies : (ps : List PolicyData) (es : List EgressData) → AllByRecursion IsWholePolicy ps → Ascends (λ (p : PolicyData). p.key) policy_order ps
        → over step a (flat_map policy_in (by_name (map policy_object ps ++ map egress_object es))) ≡ over (λ p. step (net_policy p)) a ps
    over-policies ps es whole up = over-held (by_name (map policy_object ps ++ map egress_object es)) ∙ over-objects ps es whole up

  module _ (ps : List PolicyData) (es : List EgressData) (whole : AllByRecursion IsWholePolicy ps) (up : Ascends (λ (p : PolicyData). p.key) policy_order ps) where
    -- some policy passes where one that is held does
    pub any_held : (p : NetPolicyData → Bool) → list_any p (flat_map policy_in (by_name (map policy_object ps ++ map egress_object es))) ≡ list_any (λ r. p (net_policy r)) ps
    any_held p =
        list_any-over p (flat_map policy_in (by_name (map policy_object ps ++ map egress_object es)))
        ∙ over-policies (λ r b. p r || b) false (λ r s is_r is_s less b. or_swap (p (net_policy r)) (p (net_policy s)) b) ps es whole up
        ∙ sym (list_any-over (λ r. p (net_policy r)) ps)

    -- the first rule of those that are held is the first of all
    pub first_held : (k : NetPolicyData → NetRule → Bool)
        → first net_rule_key (flat_map (λ p. filter (k p) p.rules) (flat_map policy_in (by_name (map policy_object ps ++ map egress_object es))))
        ≡ first net_rule_key (flat_map (λ p. filter (k (net_policy p)) (map net_rule p.rules)) ps)
    first_held k =
        first-over (λ p. filter (k p) p.rules) (flat_map policy_in (by_name (map policy_object ps ++ map egress_object es)))
        ∙ over-policies (λ p b. into net_rule_key (filter (k p) p.rules) b) None swaps ps es whole up
        ∙ sym (first-over (λ p. filter (k (net_policy p)) (map net_rule p.rules)) ps)
      where
        kept : PolicyData → List NetRule
        kept p = filter (k (net_policy p)) (map net_rule p.rules)

        keyed : (p : PolicyData) → IsWholePolicy p → AllByRecursion (λ (r : NetRule). r.key.policy ≡ p.key) (kept p)
        keyed p is =
            all_filter (λ (r : NetRule). r.key.policy ≡ p.key) (k (net_policy p)) (map net_rule p.rules)
            (all_map (λ (r : NetRule). r.key.policy ≡ p.key) net_rule p.rules (all_weaker (IsRuleOf p.key p.priority) (λ (r : Rule). r.key.policy ≡ p.key) (λ r own. own.0) p.rules is.policy.keyed))

        swaps : (p r : PolicyData) → IsWholePolicy p → IsWholePolicy r → policy_order p.key r.key ≡ Less → (b : Option NetRule)
            → into net_rule_key (kept p) (into net_rule_key (kept r) b) ≡ into net_rule_key (kept r) (into net_rule_key (kept p) b)
        swaps p r is_p is_r less =
            into-swap net_rule_key (kept p) (kept r)
            (all_weaker (λ (x : NetRule). x.key.policy ≡ p.key) (λ x. AllByRecursion (Differ net_rule_key x) (kept r))
            (λ x of_p. all_weaker (λ (y : NetRule). y.key.policy ≡ r.key) (Differ net_rule_key x)
            (λ y of_r. rules_differ x.key y.key (ap (λ z. policy_order z y.key.policy) of_p ∙ ap (policy_order p.key) of_r ∙ less)) (kept r) (keyed r is_r))
            (kept p) (keyed p is_p))
