use Rattle.std.proofs.Common.{List, ◌++◌, sym, ap, ◌∙◌}
use Rattle.cluster_types.specs.declared.steps.Stage.TheVariants.{Native, Kubernetes, Baseline}
use Rattle.cluster_types.specs.Steps.{first}
use Rattle.watch_streams.specs.declared.net.NetRule.{NetRule}
use Rattle.held_maps.specs.Held.{maps_of}
use Rattle.watch_streams.specs.HeldEvaluation.{net_rule_key}
use Rattle.held_maps.proofs.FirstHeld.{none_match}
use Rattle.held_maps.proofs.rules.found_in.Goals as goal

pub returns-else-applies-clause-native : goal.returns-else-applies-clause-native
returns-else-applies-clause-native c = λ later h.
    h ∙ sym (ap (λ (rs : List NetRule). first net_rule_key (rs ++ later))
    (none_match (maps_of c.args.asked.now.held.now) c.args.asked.now.question.now c.args.policy.now Native c.args.policy.now.rules (sym c.applies.ensures ∙ c.if-applies.false)))

pub returns-else-applies-clause-kubernetes : goal.returns-else-applies-clause-kubernetes
returns-else-applies-clause-kubernetes c = λ later h.
    h ∙ sym (ap (λ (rs : List NetRule). first net_rule_key (rs ++ later))
    (none_match (maps_of c.args.asked.now.held.now) c.args.asked.now.question.now c.args.policy.now Kubernetes c.args.policy.now.rules (sym c.applies.ensures ∙ c.if-applies.false)))

pub returns-else-applies-clause-baseline : goal.returns-else-applies-clause-baseline
returns-else-applies-clause-baseline c = λ later h.
    h ∙ sym (ap (λ (rs : List NetRule). first net_rule_key (rs ++ later))
    (none_match (maps_of c.args.asked.now.held.now) c.args.asked.now.question.now c.args.policy.now Baseline c.args.policy.now.rules (sym c.applies.ensures ∙ c.if-applies.false)))
