-- A native policy stays one when its rules get the number of a tier.
use Rattle.std.proofs.Common.{◌≡◌, ℕ, List, [], ◌∷◌, false, map}
use Rattle.std.specs.List.{AllByRecursion}
use Rattle.std.specs.declared.cmp.Ordering.TheVariants.{Less}
use Rattle.std.proofs.lemmas.Bool.{true≢false}
use Rattle.cl_types.specs.declared.keys.PolicyKind.{PolicyKind}
use Rattle.cl_types.specs.declared.keys.PolicyKind.TheVariants.{Cluster, Antrea, Kube}
use Rattle.cl_types.specs.Ascending.{Ascends}
use Rattle.cluster_types.specs.declared.policy.Rule.{Rule}
use Rattle.cluster_objects.specs.Apply.{in_tier}
use Rattle.cluster_types.specs.Policy.{PolicyData, IsPolicy, IsPolicyOfKind, IsNativePolicy, place_order}
use Rattle.cluster_types.specs.Steps.{is_kube}
use Rattle.cluster_types.specs.Whole.{IsWholePolicy, IsWholeRule}

module _ (n : ℕ) where
  -- what doesn't look at the tier holds of all rules still
  all_in_tier : (P : Rule → Type 0) → ((r : Rule) → P r → P (in_tier n r)) → (rs : List Rule) → AllByRecursion P rs → AllByRecursion P (map (in_tier n) rs)
  all_in_tier P f [] all = tt
  all_in_tier P f (r ∷ rs) all = (f r all.0, all_in_tier P f rs all.1)

  behind_in_tier : (r : Rule) (rs : List Rule) → AllByRecursion (λ s. place_order r s ≡ Less) rs → AllByRecursion (λ s. place_order (in_tier n r) s ≡ Less) (map (in_tier n) rs)
  behind_in_tier r [] all = tt
  behind_in_tier r (s ∷ rs) all = (all.0, behind_in_tier r rs all.1)

  in_order : (rs : List Rule) → Ascends (λ (r : Rule). r) place_order rs → Ascends (λ (r : Rule). r) place_order (map (in_tier n) rs)
  in_order [] up = tt
  in_order (r ∷ rs) up = (behind_in_tier r rs up.0, in_order rs up.1)

  abbrev renumbered : PolicyData → PolicyData
  renumbered p = record p { rules = map (in_tier n) p.rules }

  native : (p : PolicyData) → IsNativePolicy p → IsNativePolicy (renumbered p)
  native p is = record {
    isolates_nobody_in = is.isolates_nobody_in;
    isolates_nobody_out = is.isolates_nobody_out;
    baseline = λ base. all_in_tier _ (λ r not_pass. not_pass) p.rules (is.baseline base);
  }

  of_kind : (kind : PolicyKind) (p : PolicyData) → is_kube kind ≡ false → IsPolicyOfKind kind p → IsPolicyOfKind kind (renumbered p)
  of_kind Kube p not_kube is = absurd (true≢false not_kube)
  of_kind Cluster p not_kube is = native p is
  of_kind Antrea p not_kube is = native p is

  pub is_policy_still : (p : PolicyData) → is_kube p.key.kind ≡ false → IsPolicy p → IsPolicy (renumbered p)
  is_policy_still p not_kube is = record {
    of_kind = of_kind p.key.kind p not_kube is.of_kind;
    keyed = all_in_tier _ (λ r of_policy. of_policy) p.rules is.keyed;
    in_order = in_order p.rules is.in_order;
  }

  pub is_whole_policy_still : (p : PolicyData) → is_kube p.key.kind ≡ false → IsWholePolicy p → IsWholePolicy (renumbered p)
  is_whole_policy_still p not_kube is = record {
    policy = is_policy_still p not_kube is.policy;
    name = is.name;
    applied = is.applied;
    peers = all_in_tier IsWholeRule (λ r whole. whole) p.rules is.peers;
  }
