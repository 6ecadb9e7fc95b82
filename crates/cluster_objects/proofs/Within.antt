-- What stays within a limit.
use Rattle.std.proofs.Common.{◌≡◌, ℕ, suc, ◌+◌, ◌≤◌, List, [], ◌∷◌, length, Bool, true, false, Option, None, if◌then◌else◌, filter, arith}
use Rattle.std.specs.Prelude.{nat_lt}
use Rattle.std.specs.List.{AllByRecursion, list_any}
use Rattle.std.proofs.lemmas.Bool.{ltb-false}
use Rattle.cl_types.specs.declared.keys.PolicyKind.{PolicyKind}
use Rattle.cl_types.specs.declared.keys.PolicyKind.TheVariants.{Cluster, Antrea, Kube}
use Rattle.cl_types.specs.Ascending.{Ascends, put, without}
use Rattle.cl_types.specs.ListLaws.{all_weaker}
use Rattle.cl_types.specs.RuleOrder.{policy_order, policy_order_total}
use Rattle.cluster_objects.specs.declared.change.ClusterRefusal.{ClusterRefusal}
use Rattle.cluster_objects.specs.declared.change.ClusterRefusal.TheVariants.{TooMany}
use Rattle.cluster_objects.specs.declared.totals.Total.TheVariants.{PoliciesOf, NativeRules, KubeRules}
use Rattle.cluster_objects.specs.Apply.{at_policy}
use Rattle.cluster_objects.specs.Refusals.{when, over, some_over, total_over, excepts_over, first_refusal, rule_limits, list_limits, policy_limits}
use Rattle.cluster_objects.proofs.Puts.{total_put}
use Rattle.cluster_objects.proofs.Refusals.{not_when, none_first, none_later, none_passes}
use Rattle.cluster_types.specs.declared.policy.Rule.{Rule}
use Rattle.cluster_types.specs.Cluster.{IsRuleWithinLimits, IsPolicyWithinLimits}
use Rattle.cluster_types.specs.Counts.{total, same_kind, count_of_kind, native_rule_count, kube_rule_count, peers_of, port_count, except_count}
use Rattle.cluster_types.specs.Limits.{max_policies, max_rules, max_peers, max_ports, max_applied, max_excepts, max_native_rules, max_kube_rules}
use Rattle.cluster_types.specs.Policy.{PolicyData}

-- a limit that isn't passed
pub within : (limit count : ℕ) → over limit count ≡ None → count ≤ limit
within limit count none = ltb-false limit count (not_when (nat_lt limit count) (TooMany limit) none)

-- no item passes the limit
pub each_within : {T : Type 0} (limit : ℕ) (count : T → ℕ) (xs : List T) → list_any (λ x. nat_lt limit (count x)) xs ≡ false → AllByRecursion (λ x. count x ≤ limit) xs
each_within limit count xs none =
    all_weaker (λ x. nat_lt limit (count x) ≡ false) (λ x. count x ≤ limit) (λ x not_over. ltb-false limit (count x) not_over) xs (none_passes (λ x. nat_lt limit (count x)) xs none)

-- what a test keeps is no longer, and has no more together
pub kept_length : {T : Type 0} (keep : T → Bool) (xs : List T) → length (filter keep xs) ≤ length xs
kept_length keep [] = omega arith
kept_length keep (x ∷ xs) = by_test (keep x) (kept_length keep xs)
  where
    by_test : (b : Bool) → length (filter keep xs) ≤ length xs → length (if b then x ∷ filter keep xs else filter keep xs) ≤ suc (length xs)
    by_test true rest = omega (arith, rest)
    by_test false rest = omega (arith, rest)

pub kept_total : {T : Type 0} (count : T → ℕ) (keep : T → Bool) (xs : List T) → total count (filter keep xs) ≤ total count xs
kept_total count keep [] = omega arith
kept_total count keep (x ∷ xs) = by_test (keep x) (kept_total count keep xs)
  where
    by_test : (b : Bool) → total count (filter keep xs) ≤ total count xs → total count (if b then x ∷ filter keep xs else filter keep xs) ≤ count x + total count xs
    by_test true rest = omega (arith, rest)
    by_test false rest = omega (arith, rest)

pub kept_length_within : {T : Type 0} (limit : ℕ) (keep : T → Bool) (xs : List T) → length xs ≤ limit → length (filter keep xs) ≤ limit
kept_length_within limit keep xs within_it = let fewer = kept_length keep xs in omega (arith, fewer, within_it)

pub kept_total_within : {T : Type 0} (limit : ℕ) (count : T → ℕ) (keep : T → Bool) (xs : List T) → total count xs ≤ limit → total count (filter keep xs) ≤ limit
kept_total_within limit count keep xs within_it = let fewer = kept_total count keep xs in omega (arith, fewer, within_it)

-- ---- a policy against which no limit stands

rules_within : (rules : List Rule) → AllByRecursion (λ (r : Rule). length (peers_of r) ≤ max_peers) rules → AllByRecursion (λ (r : Rule). port_count r ≤ max_ports) rules
    → AllByRecursion (λ (r : Rule). excepts_over r ≡ false) rules → AllByRecursion IsRuleWithinLimits rules
rules_within [] peers ports excepts = tt
rules_within (r ∷ rs) peers ports excepts = (one, rules_within rs peers.1 ports.1 excepts.1)
  where
    one : IsRuleWithinLimits r
    one = record { peers = peers.0; ports = ports.0; excepts = each_within max_excepts except_count (peers_of r) excepts.0 }

module _ (policies : List PolicyData) (p : PolicyData) where
  abbrev after : List PolicyData
  after = put (at_policy p.key) p policies

  abbrev kind_check : Option ClusterRefusal
  kind_check = total_over max_policies (PoliciesOf p.key.kind) policies p

  abbrev rules_check : Option ClusterRefusal
  rules_check = over max_rules (length p.rules)

  abbrev peers_check : Option ClusterRefusal
  peers_check = some_over max_peers (λ (r : Rule). length (peers_of r)) p.rules

  abbrev ports_check : Option ClusterRefusal
  ports_check = some_over max_ports port_count p.rules

  abbrev applied_check : Option ClusterRefusal
  applied_check = over max_applied (length p.applied)

  abbrev excepts_check : Option ClusterRefusal
  excepts_check = when (list_any excepts_over p.rules) (TooMany max_excepts)

  abbrev native_check : Option ClusterRefusal
  native_check = total_over max_native_rules NativeRules policies p

  abbrev kube_check : Option ClusterRefusal
  kube_check = total_over max_kube_rules KubeRules policies p

  module _ (none : first_refusal (policy_limits policies p) ≡ None) where
    pub kind_within : total (count_of_kind p.key.kind) after ≤ max_policies
    kind_within = within max_policies (total (count_of_kind p.key.kind) after) (none_first kind_check (rules_check ∷ list_limits policies p) none)

    from_rules : first_refusal (rules_check ∷ list_limits policies p) ≡ None
    from_rules = none_later kind_check (rules_check ∷ list_limits policies p) none

    from_peers : first_refusal (list_limits policies p) ≡ None
    from_peers = none_later rules_check (list_limits policies p) from_rules

    from_ports : first_refusal (ports_check ∷ applied_check ∷ excepts_check ∷ rule_limits policies p) ≡ None
    from_ports = none_later peers_check (ports_check ∷ applied_check ∷ excepts_check ∷ rule_limits policies p) from_peers

    from_applied : first_refusal (applied_check ∷ excepts_check ∷ rule_limits policies p) ≡ None
    from_applied = none_later ports_check (applied_check ∷ excepts_check ∷ rule_limits policies p) from_ports

    from_excepts : first_refusal (excepts_check ∷ rule_limits policies p) ≡ None
    from_excepts = none_later applied_check (excepts_check ∷ rule_limits policies p) from_applied

    from_native : first_refusal (rule_limits policies p) ≡ None
    from_native = none_later excepts_check (rule_limits policies p) from_excepts

    pub native_within : total native_rule_count after ≤ max_native_rules
    native_within = within max_native_rules (total native_rule_count after) (none_first native_check (kube_check ∷ []) from_native)

    pub kube_within : total kube_rule_count after ≤ max_kube_rules
    kube_within = within max_kube_rules (total kube_rule_count after) (none_first kube_check [] (none_later native_check (kube_check ∷ []) from_native))

    each_peers : AllByRecursion (λ (r : Rule). length (peers_of r) ≤ max_peers) p.rules
    each_peers = each_within max_peers (λ (r : Rule). length (peers_of r)) p.rules
        (not_when (list_any (λ (r : Rule). nat_lt max_peers (length (peers_of r))) p.rules) (TooMany max_peers) (none_first peers_check (ports_check ∷ applied_check ∷ excepts_check ∷ rule_limits policies p) from_peers))

    each_ports : AllByRecursion (λ (r : Rule). port_count r ≤ max_ports) p.rules
    each_ports = each_within max_ports port_count p.rules
        (not_when (list_any (λ (r : Rule). nat_lt max_ports (port_count r)) p.rules) (TooMany max_ports) (none_first ports_check (applied_check ∷ excepts_check ∷ rule_limits policies p) from_ports))

    each_excepts : AllByRecursion (λ (r : Rule). excepts_over r ≡ false) p.rules
    each_excepts = none_passes excepts_over p.rules
        (not_when (list_any excepts_over p.rules) (TooMany max_excepts) (none_first excepts_check (rule_limits policies p) from_excepts))

    pub policy_within : IsPolicyWithinLimits p
    policy_within = record {
      rules = within max_rules (length p.rules) (none_first rules_check (list_limits policies p) from_rules);
      applied = within max_applied (length p.applied) (none_first applied_check (excepts_check ∷ rule_limits policies p) from_applied);
      each_rule = rules_within p.rules each_peers each_ports each_excepts;
    }

-- of the kinds that aren't put there are no more than before
pub other_kind : (kind : PolicyKind) (policies : List PolicyData) (p : PolicyData) → Ascends (λ (q : PolicyData). q.key) policy_order policies
    → total (count_of_kind p.key.kind) (put (at_policy p.key) p policies) ≤ max_policies → total (count_of_kind kind) policies ≤ max_policies
    → total (count_of_kind kind) (put (at_policy p.key) p policies) ≤ max_policies
other_kind kind policies p up own before = by_kind p.key.kind kind own (total_put (λ (q : PolicyData). q.key) policy_order_total (count_of_kind kind) p policies up) fewer
  where
    fewer : total (count_of_kind kind) (without (at_policy p.key) policies) ≤ max_policies
    fewer = kept_total_within max_policies (count_of_kind kind) _ policies before

    by_kind : (k l : PolicyKind) → total (count_of_kind k) (put (at_policy p.key) p policies) ≤ max_policies
        → total (count_of_kind l) (put (at_policy p.key) p policies) ≡ (if same_kind k l then 1 else 0) + total (count_of_kind l) (without (at_policy p.key) policies)
        → total (count_of_kind l) (without (at_policy p.key) policies) ≤ max_policies
        → total (count_of_kind l) (put (at_policy p.key) p policies) ≤ max_policies
    by_kind Cluster Cluster own is less = own
    by_kind Antrea Antrea own is less = own
    by_kind Kube Kube own is less = own
    by_kind Cluster Antrea own is less = omega (arith, is, less)
    by_kind Cluster Kube own is less = omega (arith, is, less)
    by_kind Antrea Cluster own is less = omega (arith, is, less)
    by_kind Antrea Kube own is less = omega (arith, is, less)
    by_kind Kube Cluster own is less = omega (arith, is, less)
    by_kind Kube Antrea own is less = omega (arith, is, less)
