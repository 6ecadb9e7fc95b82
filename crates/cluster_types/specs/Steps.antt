-- The three steps in which a verdict is found, over any rules with a key and an action (Antrea's tiers, with
-- Baseline after the Kubernetes policies).
use Rattle.std.specs.Prelude.{List, Bool, true, false, not, ◌&&◌, ◌==◌, Option, Some, None, if◌then◌else◌}
use Rattle.std.specs.declared.cmp.Ordering.{Ordering}
use Rattle.cl_types.specs.declared.keys.PolicyKind.{PolicyKind}
use Rattle.cl_types.specs.declared.keys.PolicyKind.TheVariants.{Kube}
use Rattle.cl_types.specs.declared.keys.RuleKey.{RuleKey}
use Rattle.cl_types.specs.declared.verdict.Action.{Action}
use Rattle.cl_types.specs.declared.verdict.Action.TheVariants as action
use Rattle.cl_types.specs.declared.verdict.Verdict.{Verdict}
use Rattle.cl_types.specs.declared.verdict.Verdict.TheVariants as verdict
use Rattle.cluster_types.specs.Tier.{baseline_tier}
use Rattle.cluster_types.specs.declared.steps.Stage.{Stage}
use Rattle.cluster_types.specs.declared.steps.Stage.TheVariants.{Native, Kubernetes, Baseline}
use Rattle.cl_types.specs.First.{earlier as earlier_by, first as first_by}
use Rattle.cl_types.specs.Judgement.{Judgement, by_rule, by_isolation, by_default}
use Rattle.cl_types.specs.RuleOrder.{rule_order}

abbrev pub is_kube : PolicyKind → Bool
is_kube Kube = true
is_kube _ = false

-- native rules outside Baseline, rules of Kubernetes policies, native rules of Baseline
abbrev pub in_stage : Stage → PolicyKind → RuleKey → Bool
in_stage Native kind key = not (is_kube kind) && not (key.tier == baseline_tier)
in_stage Kubernetes kind key = is_kube kind
in_stage Baseline kind key = not (is_kube kind) && (key.tier == baseline_tier)

-- the rule order, of rules that have a key
abbrev pub by_key : {R : Type 0} → (R → RuleKey) → R → R → Ordering
by_key key r s = rule_order (key r) (key s)

-- of two rules the one that is looked at first
abbrev pub earlier : {R : Type 0} → (R → RuleKey) → R → Option R → R
earlier key = earlier_by (by_key key)

-- the first of some rules in the rule order
abbrev pub first : {R : Type 0} → (R → RuleKey) → List R → Option R
first key = first_by (by_key key)

abbrev pub judged : Verdict → RuleKey → Judgement
judged v key = record { verdict = v; by = by_rule key }

abbrev pub allowed_by_default : Judgement
allowed_by_default = record { verdict = verdict.Allow; by = by_default }

-- what a rule decides, or else what is decided without it: Pass leaves the decision
abbrev pub decided : RuleKey → Action → Judgement → Judgement
decided key action.Allow other = judged verdict.Allow key
decided key action.Drop other = judged verdict.Drop key
decided key action.Reject other = judged verdict.Reject key
decided key action.Pass other = other

-- the first rule, where there is one, decides
abbrev pub decided_first : {R : Type 0} → (R → RuleKey) → (R → Action) → Option R → Judgement → Judgement
decided_first key act None other = other
decided_first key act (Some r) other = decided (key r) (act r) other

-- of an isolated pod: what a Kubernetes rule allows is allowed, and nothing else
abbrev pub allowed_first : {R : Type 0} → (R → RuleKey) → Option R → Judgement
allowed_first key None = record { verdict = verdict.Drop; by = by_isolation }
allowed_first key (Some r) = judged verdict.Allow (key r)

-- First the native rules outside Baseline. Where none of them decides: the Kubernetes rules of an
-- isolated pod, and of any other pod the Baseline rules, and at last everything is allowed.
abbrev pub verdict_of : {R : Type 0} → (R → RuleKey) → (R → Action) → (Stage → List R) → Bool → Judgement
verdict_of key act rules isolated =
    decided_first key act (first key (rules Native))
    (if isolated
    then allowed_first key (first key (rules Kubernetes))
    else decided_first key act (first key (rules Baseline)) allowed_by_default)
