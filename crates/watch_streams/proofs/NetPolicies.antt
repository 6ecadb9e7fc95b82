-- What goes on a stream for a policy of a cluster has what the type of policies there keeps.
use Rattle.std.proofs.Common.{◌≡◌, ◌≢◌, ℕ, List, [], ◌∷◌, Bool, true, false, ◌&&◌, Option, Some, None, find, filter, map, codes, cond, if◌then◌else◌, refl, sym, ap, ◌∙◌, arith, true≢false}
use Rattle.std.specs.List.{AllByRecursion, list_any}
use Rattle.std.specs.Str.{str_to_ascii_lowercase}
use Rattle.std.specs.declared.cmp.Ordering.{Ordering}
use Rattle.std.specs.declared.cmp.Ordering.TheVariants.{Less, Equal}
use Rattle.std.specs.Ordering.{nat_cmp}
use Rattle.std.proofs.lemmas.Cmp.{nat_cmp_total, tied_itself}
use Rattle.cl_types.specs.declared.keys.Dir.{Dir}
use Rattle.cl_types.specs.declared.keys.Dir.TheVariants.{Ingress, Egress}
use Rattle.cl_types.specs.declared.keys.PolicyKind.{PolicyKind}
use Rattle.cl_types.specs.declared.keys.PolicyKind.TheVariants.{Cluster, Antrea, Kube}
use Rattle.cl_types.specs.declared.verdict.Action.TheVariants.{Pass}
use Rattle.cl_types.specs.Ascending.{Ascends, found}
use Rattle.cl_types.specs.ListLaws.{all_weaker, all_filter}
use Rattle.cl_types.specs.OrderLaws.{text_eq-one}
use Rattle.cl_types.specs.PolicyName.{PolicyName}
use Rattle.cl_types.specs.RuleOrder.{policy_order, policy_order_total, rule_order}
use Rattle.cl_types.specs.Text.{text_eq}
use Rattle.cluster_types.specs.declared.policy.Rule.{Rule}
use Rattle.cluster_types.specs.Cluster.{AreInTier, ClusterData, HasTier}
use Rattle.cluster_types.specs.Evaluation.{applies}
use Rattle.cluster_types.specs.Groups.{in_group}
use Rattle.cluster_types.specs.Pod.{PodData}
use Rattle.cluster_types.specs.Policy.{IsBaseline, IsKubePolicy, IsKubeRule, IsNativePolicy, IsPolicy, IsPolicyOfKind, IsRuleOf, PolicyData, isolates, place_order}
use Rattle.cluster_types.specs.Steps.{is_kube}
use Rattle.cluster_types.specs.Tier.{TierData, HasStaticTiers, baseline_tier, is_static, kube_tier, name_meant, tier_named, tier_of}
use Rattle.cluster_types.specs.Whole.{IsWholePolicy}
use Rattle.watch_streams.specs.declared.net.NetRule.{NetRule}
use Rattle.watch_streams.specs.Laws.{AppliedPoliciesAreWhole, PoliciesOnStreamsAreWhole}
use Rattle.watch_streams.specs.Net.{IsNetKubePolicy, IsNetKubeRule, IsNetPolicy, net_isolates}
use Rattle.watch_streams.specs.Projection.{is_on, net_policy, net_rule, policies_on, policy_is_on}
use Rattle.watch_streams.specs.OneOfAll.{all_map, all_of_both, and_false, found-passes, list_any-each, list_any-none}

-- ---- the order of rules

-- of two rules of one policy and one tier the rule order looks at their places alone
module _ (key : PolicyName) (priority tier : ℕ) where
  -- the rule is of this policy and this tier
  abbrev IsHere : Rule → Type 0
  IsHere r = IsRuleOf key priority r × (r.key.tier ≡ tier)

  before : (r s : Rule) → IsHere r → IsHere s → place_order r s ≡ Less → rule_order r.key s.key ≡ Less
  before r s a b less =
      let tiers : nat_cmp r.key.tier s.key.tier ≡ Equal = ap (λ n. nat_cmp n s.key.tier) a.1 ∙ ap (nat_cmp tier) b.1 ∙ tied_itself nat_cmp_total tier in
      let priorities : nat_cmp r.key.priority s.key.priority ≡ Equal = ap (λ n. nat_cmp n s.key.priority) a.0.1 ∙ ap (nat_cmp priority) b.0.1 ∙ tied_itself nat_cmp_total priority in
      let policies : policy_order r.key.policy s.key.policy ≡ Equal = ap (λ k. policy_order k s.key.policy) a.0.0 ∙ ap (policy_order key) b.0.0 ∙ tied_itself policy_order_total key in
      rw (tiers, priorities, policies) less

  before_all : (r : Rule) (rs : List Rule) → IsHere r → AllByRecursion IsHere rs → AllByRecursion (λ s. place_order r s ≡ Less) rs
      → AllByRecursion (λ (s : NetRule). rule_order r.key s.key ≡ Less) (map net_rule rs)
  before_all r [] here all less = tt
  before_all r (s ∷ rs) here all less = (before r s here all.0 less.0, before_all r rs here all.1 less.1)

  in_rule_order : (rs : List Rule) → AllByRecursion IsHere rs → Ascends (λ (r : Rule). r) place_order rs → Ascends (λ (r : NetRule). r.key) rule_order (map net_rule rs)
  in_rule_order [] all up = tt
  in_rule_order (r ∷ rs) all up = (before_all r rs all.0 all.1 up.0, in_rule_order rs all.1 up.1)

-- ---- the tier Baseline

abbrev at_priority : ℕ → TierData → Ordering
at_priority n t = nat_cmp t.priority n

abbrev By : List TierData → Type 0
By ts = Ascends (λ (t : TierData). t.priority) nat_cmp ts

-- what a search by any test finds stands at its own priority
module _ (q : TierData → Bool) where
  later : (t s : TierData) (ts : List TierData) → AllByRecursion (λ (u : TierData). nat_cmp t.priority u.priority ≡ Less) ts → find q ts ≡ Some s → nat_cmp t.priority s.priority ≡ Less
  later t s [] less e = cc
  later t s (u ∷ us) less e = by_test (q u) e (later t s us less.1)
    where
      by_test : (b : Bool) → cond b (Some u) (find q us) ≡ Some s → (find q us ≡ Some s → nat_cmp t.priority s.priority ≡ Less) → nat_cmp t.priority s.priority ≡ Less
      by_test true is rest = let same : u ≡ s = cc in ap (λ (z : TierData). nat_cmp t.priority z.priority) (sym same) ∙ less.0
      by_test false is rest = rest is

  stands_there : (s : TierData) (ts : List TierData) → By ts → find q ts ≡ Some s → found (at_priority s.priority) ts ≡ Some s
  stands_there s [] up e = cc
  stands_there s (t ∷ ts) up e = by_test (q t) e (stands_there s ts up.1)
    where
      by_test : (b : Bool) → cond b (Some t) (find q ts) ≡ Some s → (find q ts ≡ Some s → found (at_priority s.priority) ts ≡ Some s) → found (at_priority s.priority) (t ∷ ts) ≡ Some s
      by_test true is rest = let same : t ≡ s = cc in rw (ap (λ (z : TierData). nat_cmp t.priority z.priority) (sym same) ∙ tied_itself nat_cmp_total t.priority) is
      by_test false is rest = rw (later t s ts up.0 is) (rest is)

-- the written name means `baseline` only where it is this text in lower case
baseline_meant : (static : Bool) (written : List ℕ) → (if static then str_to_ascii_lowercase written else written) ≡ codes "baseline" → IsBaseline written
baseline_meant true written e = e
baseline_meant false written e = ap str_to_ascii_lowercase e

-- a tier with the number of Baseline that a written name means is Baseline
module _ (tiers : List TierData) (up : By tiers) (static : HasStaticTiers tiers) where
  is_baseline : (written : List ℕ) (t : TierData) → tier_named (name_meant written) tiers ≡ Some t → t.priority ≡ baseline_tier → IsBaseline written
  is_baseline written t named number =
      let base : TierData = tier_of (codes "baseline") baseline_tier in
      let there : found (at_priority t.priority) tiers ≡ Some t = stands_there (λ (u : TierData). text_eq u.name (name_meant written)) t tiers up named in
      let here : found (at_priority baseline_tier) tiers ≡ Some base = stands_there (λ (u : TierData). text_eq u.name (codes "baseline")) base tiers up static.1.1.1.1.1.0 in
      let same : t ≡ base = some_is t base (sym there ∙ ap (λ n. found (at_priority n) tiers) number ∙ here) in
      let meant : t.name ≡ name_meant written = text_eq-one t.name (name_meant written) (found-passes (λ (u : TierData). text_eq u.name (name_meant written)) tiers t named) in
      baseline_meant (is_static (str_to_ascii_lowercase written)) written (sym meant ∙ ap (λ (u : TierData). u.name) same)
    where
      some_is : (x y : TierData) → Some x ≡ Some y → x ≡ y
      some_is x y e = cc

-- ---- a policy

-- a rule of Baseline doesn't pass
abbrev KeepsBaseline : Rule → Type 0
KeepsBaseline r = r.key.tier ≡ baseline_tier → r.action ≢ Pass

-- what holds of all in some case holds of each in this case
each_where : {T A : Type 0} (P : T → Type 0) (xs : List T) → (A → AllByRecursion P xs) → AllByRecursion (λ x. A → P x) xs
each_where P [] f = tt
each_where P (x ∷ xs) f = (λ a. (f a).0, each_where P xs (λ a. (f a).1))

same_isolation : (p : PolicyData) (d : Dir) → net_isolates (net_policy p) d ≡ isolates p d
same_isolation p Ingress = refl
same_isolation p Egress = refl

module _ (p : PolicyData) (is : IsPolicy p) (applies_to_some : p.applied ≢ []) where
  -- a policy whose rules have one tier
  in_one_tier : (tier : ℕ) → AllByRecursion (λ (r : Rule). r.key.tier ≡ tier) p.rules → AllByRecursion KeepsBaseline p.rules → (p.key.kind ≡ Kube → IsNetKubePolicy (net_policy p)) → IsNetPolicy (net_policy p)
  in_one_tier tier here base kubernetes = record {
    keyed = all_map (λ (r : NetRule). r.key.policy ≡ p.key) net_rule p.rules (all_weaker (IsRuleOf p.key p.priority) (λ (r : Rule). r.key.policy ≡ p.key) (λ r of_policy. of_policy.0) p.rules is.keyed);
    in_order = in_rule_order p.key p.priority tier p.rules (all_of_both (IsRuleOf p.key p.priority) (λ (r : Rule). r.key.tier ≡ tier) (IsHere p.key p.priority tier) (λ r a b. (a, b)) p.rules is.keyed here) is.in_order;
    applies = applies_to_some;
    baseline = all_map (λ (r : NetRule). r.key.tier ≡ baseline_tier → r.action ≢ Pass) net_rule p.rules base;
    kubernetes = kubernetes;
  }

  kube_rule : IsKubePolicy p → (r : Rule) → IsRuleOf p.key p.priority r → IsKubeRule p r → IsNetKubeRule (net_policy p) (net_rule r)
  kube_rule kube r of_policy of_kube = record {
    tier = of_kube.tier;
    priority = of_policy.1 ∙ kube.priority;
    action = of_kube.action;
    direction = same_isolation p r.key.dir ∙ of_kube.direction;
  }

  kube : IsKubePolicy p → IsNetPolicy (net_policy p)
  kube of_kube =
      in_one_tier kube_tier
      (all_weaker (IsKubeRule p) (λ (r : Rule). r.key.tier ≡ kube_tier) (λ r of_rule. of_rule.tier) p.rules of_kube.rules)
      (all_weaker (IsKubeRule p) KeepsBaseline (λ r of_rule base. absurd (apart r.key.tier of_rule.tier base)) p.rules of_kube.rules)
      (λ is_kube. record {
        one_group = of_kube.one_group;
        rules = all_map (IsNetKubeRule (net_policy p)) net_rule p.rules (all_of_both (IsRuleOf p.key p.priority) (IsKubeRule p) (λ r. IsNetKubeRule (net_policy p) (net_rule r)) (kube_rule of_kube) p.rules is.keyed of_kube.rules);
      })
    where
      apart : (n : ℕ) → n ≡ kube_tier → n ≡ baseline_tier → ⊥
      apart n e f = omega (arith, e, f)

  native : (tiers : List TierData) → By tiers → HasStaticTiers tiers → HasTier tiers p → is_kube p.key.kind ≡ false → IsNativePolicy p → IsNetPolicy (net_policy p)
  native tiers up static has not_kube of_native = by_tier (tier_named (name_meant p.tier) tiers) refl (has not_kube)
    where
      by_tier : (o : Option TierData) → tier_named (name_meant p.tier) tiers ≡ o → AreInTier p.rules o → IsNetPolicy (net_policy p)
      by_tier None named here = absurd here
      by_tier (Some t) named here =
          in_one_tier t.priority here
          (all_of_both (λ (r : Rule). r.key.tier ≡ t.priority) (λ (r : Rule). IsBaseline p.tier → r.action ≢ Pass) KeepsBaseline
          (λ r in_tier no_pass base. no_pass (is_baseline tiers up static p.tier t named (sym in_tier ∙ base)))
          p.rules here (each_where (λ (r : Rule). r.action ≢ Pass) p.rules of_native.baseline))
          (λ kind. absurd (true≢false (sym (ap is_kube kind) ∙ not_kube)))

  policy_is_whole : (tiers : List TierData) → By tiers → HasStaticTiers tiers → HasTier tiers p → IsNetPolicy (net_policy p)
  policy_is_whole tiers up static has = by_kind p.key.kind refl is.of_kind
    where
      by_kind : (k : PolicyKind) → p.key.kind ≡ k → IsPolicyOfKind k p → IsNetPolicy (net_policy p)
      by_kind Kube e of_kind = kube of_kind
      by_kind Cluster e of_kind = native tiers up static has (ap is_kube e) of_kind
      by_kind Antrea e of_kind = native tiers up static has (ap is_kube e) of_kind

-- ---- the policies of a cluster

pub applied_are_whole : AppliedPoliciesAreWhole
applied_are_whole c h =
    all_of_both IsWholePolicy (HasTier c.tiers) (λ p. p.applied ≢ [] → IsNetPolicy (net_policy p))
    (λ p whole has applied. policy_is_whole p whole.policy applied c.tiers h.tiers_ascend h.static has) c.policies h.parts.policies h.in_tiers

-- what a test keeps passes it
kept_pass : {T : Type 0} (keep : T → Bool) (xs : List T) → AllByRecursion (λ x. keep x ≡ true) (filter keep xs)
kept_pass keep [] = tt
kept_pass keep (x ∷ xs) = by_test (keep x) refl (kept_pass keep xs)
  where
    by_test : (b : Bool) → keep x ≡ b → AllByRecursion (λ y. keep y ≡ true) (filter keep xs) → AllByRecursion (λ y. keep y ≡ true) (if b then x ∷ filter keep xs else filter keep xs)
    by_test true is rest = (is, rest)
    by_test false is rest = rest

-- a policy that concerns a node applies to some group
on_applies : (c : ClusterData) (node : List ℕ) (p : PolicyData) → policy_is_on c node p ≡ true → p.applied ≢ []
on_applies c node p on none = true≢false (sym on ∙ list_any-each (λ (q : PodData). is_on node q && applies c p q) (λ q. false) (λ q. nobody q) c.pods ∙ list_any-none c.pods)
  where
    nobody : (q : PodData) → (is_on node q && applies c p q) ≡ false
    nobody q = ap (λ gs. is_on node q && list_any (λ g. in_group c g q) gs) none ∙ and_false (is_on node q)

pub on_streams_are_whole : PoliciesOnStreamsAreWhole
on_streams_are_whole c node h =
    all_of_both (λ p. p.applied ≢ [] → IsNetPolicy (net_policy p)) (λ p. policy_is_on c node p ≡ true) (λ p. IsNetPolicy (net_policy p))
    (λ p whole on. whole (on_applies c node p on)) (policies_on c node)
    (all_filter (λ p. p.applied ≢ [] → IsNetPolicy (net_policy p)) (policy_is_on c node) c.policies (applied_are_whole c h))
    (kept_pass (policy_is_on c node) c.policies)
