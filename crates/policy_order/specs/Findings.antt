-- What one more policy adds to what is found for a question of a pod (this project's own).
use Rattle.std.specs.Prelude.{◌≡◌, List, ◌++◌, Bool, ◌&&◌, Option, filter}
use Rattle.cl_types.specs.declared.keys.Dir.{Dir}
use Rattle.cl_types.specs.declared.question.Question.{Question}
use Rattle.cluster_types.specs.declared.policy.Rule.{Rule}
use Rattle.cluster_types.specs.declared.steps.Stage.{Stage}
use Rattle.cluster_types.specs.Cluster.{ClusterData}
use Rattle.cluster_types.specs.Evaluation.{applies, rule_key, rule_matches}
use Rattle.cluster_types.specs.Pod.{PodData}
use Rattle.cluster_types.specs.Policy.{PolicyData, isolates}
use Rattle.cluster_types.specs.Steps.{first, in_stage, is_kube}

-- the rules of the policy in the stage that match the question
abbrev pub matching : ClusterData → PodData → Question → Stage → PolicyData → List Rule
matching c p q stage policy = filter (λ r. in_stage stage policy.key.kind r.key && rule_matches c policy r p q) policy.rules

-- where the one is the first of any later rules, the other is the first of these after the policy's
abbrev pub FindsMore : ClusterData → PodData → Question → Stage → PolicyData → Option Rule → Option Rule → Type 0
FindsMore c p q stage policy after found = (later : List Rule) → after ≡ first rule_key later → found ≡ first rule_key (matching c p q stage policy ++ later)

-- it is a Kubernetes policy with the direction, and applies to the pod
abbrev pub isolates_pod : ClusterData → PodData → Dir → PolicyData → Bool
isolates_pod c p dir policy = is_kube policy.key.kind && isolates policy dir && applies c policy p
