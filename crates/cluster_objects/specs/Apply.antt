-- What a change does to a cluster (this project's own rules).
use Rattle.std.specs.Prelude.{ℕ, List, Bool, true, false, not, Option, Some, None, if◌then◌else◌, map}
use Rattle.std.specs.Option.{is_some, option_map_or}
use Rattle.std.specs.declared.cmp.Ordering.{Ordering}
use Rattle.std.specs.Ordering.{nat_cmp}
use Rattle.cl_types.specs.declared.keys.PodKey.{PodKey}
use Rattle.cl_types.specs.Ascending.{found, put, without}
use Rattle.cl_types.specs.Equality.{is_same}
use Rattle.cl_types.specs.PolicyName.{PolicyName}
use Rattle.cl_types.specs.RuleOrder.{policy_order, pod_order}
use Rattle.cl_types.specs.Text.{text_order}
use Rattle.cluster_objects.specs.declared.change.Applied.{Applied}
use Rattle.cluster_objects.specs.declared.change.Applied.TheVariants.{Changed, Unchanged}
use Rattle.cluster_types.specs.declared.change.Change.{Change}
use Rattle.cluster_types.specs.declared.change.Change.TheVariants.{Put, Remove}
use Rattle.cluster_types.specs.declared.change.Object.{Object}
use Rattle.cluster_types.specs.declared.change.Object.TheVariants as object
use Rattle.cluster_types.specs.declared.change.ObjectKey.{ObjectKey}
use Rattle.cluster_types.specs.declared.change.ObjectKey.TheVariants as key
use Rattle.cluster_types.specs.declared.egress.EgressObj as egress
use Rattle.cluster_types.specs.declared.node.Namespace as namespace
use Rattle.cluster_types.specs.declared.node.NodeInfo as node
use Rattle.cluster_types.specs.declared.pod.Pod as pod
use Rattle.cluster_types.specs.declared.policy.Policy as policy
use Rattle.cluster_types.specs.declared.policy.Rule.{Rule}
use Rattle.cluster_types.specs.declared.policy.Tier as tier
use Rattle.cluster_types.specs.Cluster.{ClusterData}
use Rattle.cluster_types.specs.Egress.{EgressData}
use Rattle.cluster_types.specs.Node.{NamespaceData, NodeData}
use Rattle.cluster_types.specs.Pod.{PodData}
use Rattle.cluster_types.specs.Policy.{PolicyData}
use Rattle.cluster_types.specs.Steps.{is_kube}
use Rattle.cluster_types.specs.Tier.{TierData, tier_named, name_meant}

abbrev pub makes_difference : Applied → Bool
makes_difference Changed = true
makes_difference Unchanged = false

-- a cluster after a change, and whether the change made a difference
pub record Outcome : Type 0 where
  pub cluster : ClusterData
  pub applied : Applied

abbrev pub outcome : ClusterData → Applied → Outcome
outcome c applied = record { cluster = c; applied = applied }

-- ---- one kind of objects

-- the objects of one kind after a change, and whether it made a difference
pub record Placed (T : Type 0) : Type 0 where
  pub items : List T
  pub applied : Applied

abbrev pub difference : Bool → Applied
difference b = if b then Changed else Unchanged

-- what stands at a key is one with the new thing
abbrev pub is_there : {T : Type 0} → (T → T → Bool) → T → Option T → Bool
is_there same x None = false
is_there same x (Some y) = same y x

-- The new thing stands at its key, in place of what stood there. It makes no difference where it stood there already.
abbrev pub placed : {T : Type 0} → (T → T → Bool) → (T → Ordering) → T → List T → Placed T
placed same at x xs = record { items = put at x xs; applied = difference (not (is_there same x (found at xs))) }

-- Nothing stands at the key. It makes no difference where nothing stood there already.
abbrev pub removed : {T : Type 0} → (T → Ordering) → List T → Placed T
removed at xs = record { items = without at xs; applied = difference (is_some (found at xs)) }

-- the cluster that a change of one kind leaves
abbrev pub leaves : {T : Type 0} → Placed T → (List T → ClusterData) → Outcome
leaves p with = record { cluster = with p.items; applied = p.applied }

abbrev pub at_node : List ℕ → NodeData → Ordering
at_node name n = text_order n.name name

abbrev pub at_namespace : List ℕ → NamespaceData → Ordering
at_namespace name n = text_order n.name name

abbrev pub at_pod : PodKey → PodData → Ordering
at_pod key p = pod_order p.key key

abbrev pub at_tier : ℕ → TierData → Ordering
at_tier priority t = nat_cmp t.priority priority

abbrev pub at_policy : PolicyName → PolicyData → Ordering
at_policy key p = policy_order p.key key

abbrev pub at_egress : List ℕ → EgressData → Ordering
at_egress name e = text_order e.name name

-- the tiers without one of them, where it is there
abbrev pub without_tier : Option TierData → List TierData → Placed TierData
without_tier None tiers = record { items = tiers; applied = Unchanged }
without_tier (Some t) tiers = removed (at_tier t.priority) tiers

-- ---- what is made of a change that isn't refused

-- the cluster whose nodes are these
abbrev pub with_nodes : ClusterData → List NodeData → ClusterData
with_nodes c nodes = record c { nodes = nodes }

-- the cluster with its nodes fixed
abbrev pub fixed_nodes : ClusterData → ClusterData
fixed_nodes c = record c { fixed = true }

-- the object stands at its key; one of another kind than Node fixes the nodes
abbrev pub with_object : ClusterData → Object → Outcome
with_object c (object.Node n) = leaves (placed (is_same node.the_code) (at_node n.name) n c.nodes) (with_nodes c)
with_object c (object.Namespace n) =
    leaves (placed (is_same namespace.the_code) (at_namespace n.name) n c.namespaces) (λ namespaces. record c { fixed = true; namespaces = namespaces })
with_object c (object.Pod p) =
    leaves (placed (is_same pod.the_code) (at_pod p.key) p c.pods) (λ pods. record c { fixed = true; pods = pods })
with_object c (object.Tier t) =
    leaves (placed (is_same tier.the_code) (at_tier t.priority) t c.tiers) (λ tiers. record c { fixed = true; tiers = tiers })
with_object c (object.Policy p) =
    leaves (placed (is_same policy.the_code) (at_policy p.key) p c.policies) (λ policies. record c { fixed = true; policies = policies })
with_object c (object.Egress e) =
    leaves (placed (is_same egress.the_code) (at_egress e.name) e c.egresses) (λ egresses. record c { fixed = true; egresses = egresses })

-- nothing stands at the key; one of another kind than Node fixes the nodes
abbrev pub without_object : ClusterData → ObjectKey → Outcome
without_object c (key.Node name) = leaves (removed (at_node name) c.nodes) (with_nodes c)
without_object c (key.Namespace name) =
    leaves (removed (at_namespace name) c.namespaces) (λ namespaces. record c { fixed = true; namespaces = namespaces })
without_object c (key.Pod name) = leaves (removed (at_pod name) c.pods) (λ pods. record c { fixed = true; pods = pods })
without_object c (key.Tier name) =
    leaves (without_tier (tier_named name c.tiers) c.tiers) (λ tiers. record c { fixed = true; tiers = tiers })
without_object c (key.Policy name) =
    leaves (removed (at_policy name) c.policies) (λ policies. record c { fixed = true; policies = policies })
without_object c (key.Egress name) =
    leaves (removed (at_egress name) c.egresses) (λ egresses. record c { fixed = true; egresses = egresses })

abbrev pub made : ClusterData → Change → Outcome
made c (Put o) = with_object c o
made c (Remove key) = without_object c key

-- ---- the tier of a policy

-- the tier that a native policy means
abbrev pub tier_of_policy : ClusterData → PolicyData → Option TierData
tier_of_policy c p = tier_named (name_meant p.tier) c.tiers

abbrev pub in_tier : ℕ → Rule → Rule
in_tier number r = record r { key = record r.key { tier = number } }

-- The rules of a native policy have the number of its tier. Without a tier the policy is refused, whatever the number.
abbrev pub numbered_policy : ClusterData → PolicyData → PolicyData
numbered_policy c p =
    if is_kube p.key.kind
    then p
    else record p { rules = map (in_tier (option_map_or (λ (t : TierData). t.priority) (tier_of_policy c p) 0)) p.rules }

-- the change as it is made
abbrev pub numbered : ClusterData → Change → Change
numbered c (Put (object.Policy p)) = Put (object.Policy (numbered_policy c p))
numbered c change = change
