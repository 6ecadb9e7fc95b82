use Rattle.std.proofs.Common.{◌≡◌, ◌++◌, ◌&&◌, List, drop, filter, option_copied}
use Rattle.cluster_types.specs.declared.policy.Rule.{Rule}
use Rattle.cluster_types.specs.Evaluation.{rule_matches, rule_key}
use Rattle.cluster_types.specs.Steps.{in_stage, first}
use Rattle.policy_order.proofs.rules.first_of_applying.Given as goal

-- the first of the rules that were looked at, and of those after them
abbrev pub invariant-loop-i : goal.invariant-loop-i
invariant-loop-i l =
    (later : List Rule) → option_copied l.fn.after ≡ first rule_key later
    → option_copied l.found ≡ first rule_key (filter (λ r. in_stage l.stage l.policy.key.kind r.key && rule_matches l.asked.cluster.now.cluster l.policy r l.asked.pod.now l.asked.question.now) (drop l.i l.rules) ++ later)
