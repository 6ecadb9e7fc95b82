use Rattle.std.proofs.Common.{List, ◌++◌, sym, ap, ◌∙◌}
use Rattle.cluster_types.specs.declared.policy.Rule.{Rule}
use Rattle.cluster_types.specs.declared.steps.Stage.TheVariants.{Native, Kubernetes, Baseline}
use Rattle.cluster_types.specs.Evaluation.{rule_key}
use Rattle.cluster_types.specs.Steps.{first}
use Rattle.policy_order.proofs.FirstRules.{none_match}
use Rattle.policy_order.proofs.rules.found_in.Goals as goal

pub returns-else-applies-clause-native : goal.returns-else-applies-clause-native
returns-else-applies-clause-native c = λ later h.
    h ∙ sym (ap (λ (rs : List Rule). first rule_key (rs ++ later))
    (none_match c.args.asked.now.cluster.now.cluster c.args.policy.now c.args.asked.now.pod.now c.args.asked.now.question.now Native c.args.policy.now.rules (sym c.applies.ensures ∙ c.if-applies.false)))

pub returns-else-applies-clause-kubernetes : goal.returns-else-applies-clause-kubernetes
returns-else-applies-clause-kubernetes c = λ later h.
    h ∙ sym (ap (λ (rs : List Rule). first rule_key (rs ++ later))
    (none_match c.args.asked.now.cluster.now.cluster c.args.policy.now c.args.asked.now.pod.now c.args.asked.now.question.now Kubernetes c.args.policy.now.rules (sym c.applies.ensures ∙ c.if-applies.false)))

pub returns-else-applies-clause-baseline : goal.returns-else-applies-clause-baseline
returns-else-applies-clause-baseline c = λ later h.
    h ∙ sym (ap (λ (rs : List Rule). first rule_key (rs ++ later))
    (none_match c.args.asked.now.cluster.now.cluster c.args.policy.now c.args.asked.now.pod.now c.args.asked.now.question.now Baseline c.args.policy.now.rules (sym c.applies.ensures ∙ c.if-applies.false)))
