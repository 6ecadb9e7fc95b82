-- The order in which rules are looked at (Antrea: tier, then policy priority; the further keys are this
-- project's own, so that the order is total).
use Rattle.std.specs.Prelude.{ℕ}
use Rattle.std.specs.declared.cmp.Ordering.{Ordering}
use Rattle.std.specs.Ordering.{ordering_then, nat_cmp}
use Rattle.std.specs.Cmp.{IsTotalOrder}
use Rattle.std.proofs.lemmas.Cmp.{on_total, then_total, nat_cmp_total}
use Rattle.cl_types.specs.declared.keys.PolicyKind.{PolicyKind}
use Rattle.cl_types.specs.declared.keys.PolicyKind.TheVariants.{Cluster, Antrea, Kube}
use Rattle.cl_types.specs.declared.keys.PodKey.{PodKey}
use Rattle.cl_types.specs.declared.keys.RuleKey.{RuleKey}
use Rattle.cl_types.specs.Dir.{dir_place}
use Rattle.cl_types.specs.PolicyName.{PolicyName}
use Rattle.cl_types.specs.Text.{text_order, text_order_total}

-- ClusterNetworkPolicy, Antrea NetworkPolicy, Kubernetes NetworkPolicy
abbrev pub kind_place : PolicyKind → ℕ
kind_place Cluster = 0
kind_place Antrea = 1
kind_place Kube = 2

-- by the bytes of namespace and name
abbrev pub pod_order : PodKey → PodKey → Ordering
pod_order a b = ordering_then (text_order a.namespace b.namespace) (text_order a.name b.name)

-- by kind, then by the bytes of namespace and name
abbrev pub policy_order : PolicyName → PolicyName → Ordering
policy_order a b =
    ordering_then (nat_cmp (kind_place a.kind) (kind_place b.kind))
    (ordering_then (text_order a.namespace b.namespace) (text_order a.name b.name))

pub pod_order_total : IsTotalOrder pod_order
pod_order_total =
    then_total (on_total (λ (k : PodKey). k.namespace) text_order_total) (on_total (λ (k : PodKey). k.name) text_order_total)

pub policy_order_total : IsTotalOrder policy_order
policy_order_total =
    then_total (on_total (λ (k : PolicyName). kind_place k.kind) nat_cmp_total)
    (then_total (on_total (λ (k : PolicyName). k.namespace) text_order_total) (on_total (λ (k : PolicyName). k.name) text_order_total))

-- by tier, priority, policy, direction and place in the policy
abbrev pub rule_order : RuleKey → RuleKey → Ordering
rule_order a b =
    ordering_then (nat_cmp a.tier b.tier)
    (ordering_then (nat_cmp a.priority b.priority)
    (ordering_then (policy_order a.policy b.policy)
    (ordering_then (nat_cmp (dir_place a.dir) (dir_place b.dir)) (nat_cmp a.index b.index))))

pub rule_order_total : IsTotalOrder rule_order
rule_order_total =
    then_total (on_total (λ (k : RuleKey). k.tier) nat_cmp_total)
    (then_total (on_total (λ (k : RuleKey). k.priority) nat_cmp_total)
    (then_total (on_total (λ (k : RuleKey). k.policy) policy_order_total)
    (then_total (on_total (λ (k : RuleKey). dir_place k.dir) nat_cmp_total) (on_total (λ (k : RuleKey). k.index) nat_cmp_total))))
