-- What one more held policy adds to what is found for a question (this project's own).
use Rattle.std.specs.Prelude.{◌≡◌, List, ◌++◌, Bool, ◌&&◌, Option, filter}
use Rattle.std.specs.List.{list_any}
use Rattle.cl_types.specs.declared.question.Question.{Question}
use Rattle.cluster_types.specs.declared.steps.Stage.{Stage}
use Rattle.cluster_types.specs.Steps.{first, in_stage, is_kube}
use Rattle.watch_streams.specs.declared.net.NetRule.{NetRule}
use Rattle.watch_streams.specs.HeldEvaluation.{HeldMaps, held_member, held_rule_matches, is_at, net_rule_key}
use Rattle.watch_streams.specs.Net.{NetPolicyData, net_isolates}

-- the rules of the policy in the stage that match the question
abbrev pub matching : HeldMaps → Question → Stage → NetPolicyData → List NetRule
matching h q stage policy = filter (λ r. in_stage stage policy.key.kind r.key && held_rule_matches h q policy r) policy.rules

-- where the one is the first of any later rules, the other is the first of these after the policy's
abbrev pub FindsMore : HeldMaps → Question → Stage → NetPolicyData → Option NetRule → Option NetRule → Type 0
FindsMore h q stage policy after found = (later : List NetRule) → after ≡ first net_rule_key later → found ≡ first net_rule_key (matching h q stage policy ++ later)

-- it is a Kubernetes policy with the direction, and applies to the question's own address
abbrev pub isolates_own : HeldMaps → Question → NetPolicyData → Bool
isolates_own h q policy = is_kube policy.key.kind && net_isolates policy q.dir && list_any (held_member (is_at q.own) h.applied) policy.applied
