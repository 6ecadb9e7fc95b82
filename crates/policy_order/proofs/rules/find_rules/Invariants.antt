use Rattle.std.proofs.Common.{◌≡◌, drop, option_copied}
use Rattle.std.specs.List.{flat_map, list_any}
use Rattle.cluster_types.specs.declared.steps.Stage.TheVariants.{Native, Kubernetes, Baseline}
use Rattle.cluster_types.specs.Evaluation.{rule_key}
use Rattle.cluster_types.specs.Steps.{first}
use Rattle.policy_order.specs.Findings.{isolates_pod, matching}
use Rattle.policy_order.proofs.rules.find_rules.Given as goal

-- what is found in the policies that were looked at
abbrev pub invariant-loop-i : goal.invariant-loop-i
invariant-loop-i l =
    (option_copied l.found.native ≡ first rule_key (flat_map (matching l.asked.cluster.now.cluster l.asked.pod.now l.asked.question.now Native) (drop l.i l.policies)))
    × (option_copied l.found.kubernetes ≡ first rule_key (flat_map (matching l.asked.cluster.now.cluster l.asked.pod.now l.asked.question.now Kubernetes) (drop l.i l.policies)))
    × (option_copied l.found.baseline ≡ first rule_key (flat_map (matching l.asked.cluster.now.cluster l.asked.pod.now l.asked.question.now Baseline) (drop l.i l.policies)))
    × (l.found.isolated ≡ list_any (isolates_pod l.asked.cluster.now.cluster l.asked.pod.now l.asked.question.now.dir) (drop l.i l.policies))
