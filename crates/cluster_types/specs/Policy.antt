-- Policies as plain data, and what their type keeps.
use Rattle.std.specs.Prelude.{◌≡◌, ℕ, List, [], length, Bool, true, false, ◌≢◌, codes}
use Rattle.std.specs.List.{AllByRecursion}
use Rattle.std.specs.Str.{str_to_ascii_lowercase}
use Rattle.std.specs.declared.cmp.Ordering.{Ordering}
use Rattle.std.specs.Ordering.{ordering_then, nat_cmp}
use Rattle.cl_types.specs.declared.keys.Dir.{Dir}
use Rattle.cl_types.specs.declared.keys.Dir.TheVariants.{Ingress, Egress}
use Rattle.cl_types.specs.declared.keys.PolicyKind.{PolicyKind}
use Rattle.cl_types.specs.declared.keys.PolicyKind.TheVariants.{Cluster, Antrea, Kube}
use Rattle.cl_types.specs.declared.verdict.Action.TheVariants.{Allow, Pass}
use Rattle.cl_types.specs.Ascending.{Ascends}
use Rattle.cl_types.specs.PolicyName.{PolicyName}
use Rattle.cl_types.specs.Dir.{dir_place}
use Rattle.label_select.specs.Group.{Group}
use Rattle.cluster_types.specs.declared.policy.Rule.{Rule}
use Rattle.cluster_types.specs.Tier.{kube_tier}

pub record PolicyData : Type 0 where
  pub key : PolicyName
  pub tier : List ℕ
  pub priority : ℕ
  pub applied : List Group
  pub isolates_in : Bool
  pub isolates_out : Bool
  pub rules : List Rule

-- whether the policy isolates the pods that it selects, in a direction
abbrev pub isolates : PolicyData → Dir → Bool
isolates p Ingress = p.isolates_in
isolates p Egress = p.isolates_out

-- the place of a rule in its policy
abbrev pub place_order : Rule → Rule → Ordering
place_order a b = ordering_then (nat_cmp (dir_place a.key.dir) (dir_place b.key.dir)) (nat_cmp a.key.index b.key.index)

-- the rule is of this policy
abbrev pub IsRuleOf : PolicyName → ℕ → Rule → Type 0
IsRuleOf key priority r = (r.key.policy ≡ key) × (r.key.priority ≡ priority)

-- a rule of a Kubernetes policy only allows, in a direction in which the policy isolates
pub record IsKubeRule (p : PolicyData) (r : Rule) : Type 0 where
  pub tier : r.key.tier ≡ kube_tier
  pub action : r.action ≡ Allow
  pub direction : isolates p r.key.dir ≡ true

pub record IsKubePolicy (p : PolicyData) : Type 0 where
  pub tier : p.tier ≡ []
  pub priority : p.priority ≡ 0
  pub one_group : length p.applied ≡ 1
  pub rules : AllByRecursion (IsKubeRule p) p.rules

-- the text of a tier that stands for Baseline, without regard to case
abbrev pub IsBaseline : List ℕ → Type 0
IsBaseline tier = str_to_ascii_lowercase tier ≡ codes "baseline"

pub record IsNativePolicy (p : PolicyData) : Type 0 where
  pub isolates_nobody_in : p.isolates_in ≡ false
  pub isolates_nobody_out : p.isolates_out ≡ false
  pub baseline : IsBaseline p.tier → AllByRecursion (λ (r : Rule). r.action ≢ Pass) p.rules

abbrev pub IsPolicyOfKind : PolicyKind → PolicyData → Type 0
IsPolicyOfKind Kube p = IsKubePolicy p
IsPolicyOfKind Cluster p = IsNativePolicy p
IsPolicyOfKind Antrea p = IsNativePolicy p

pub record IsPolicy (p : PolicyData) : Type 0 where
  pub of_kind : IsPolicyOfKind p.key.kind p
  pub keyed : AllByRecursion (IsRuleOf p.key p.priority) p.rules
  pub in_order : Ascends (λ (r : Rule). r) place_order p.rules
