-- A cluster as plain data, and what every cluster keeps (this project's own).
use Rattle.std.specs.Prelude.{◌≡◌, ℕ, ◌≤◌, List, [], ◌∷◌, length, Bool, false, IsTrue, Option, Some, None}
use Rattle.std.specs.List.{AllByRecursion}
use Rattle.std.specs.Ordering.{nat_cmp}
use Rattle.std.specs.Cmp.Lexicographic.{slice_cmp}
use Rattle.cl_types.specs.declared.addr.Addr.{Addr}
use Rattle.cl_types.specs.declared.keys.PolicyKind.{PolicyKind}
use Rattle.cl_types.specs.Addr.{addr_order}
use Rattle.cl_types.specs.Ascending.{Ascends, sorted_set}
use Rattle.cl_types.specs.RuleOrder.{pod_order, policy_order}
use Rattle.cluster_types.specs.declared.policy.Peer.{Peer}
use Rattle.cluster_types.specs.declared.policy.Rule.{Rule}
use Rattle.cluster_types.specs.Counts.{total, count_of_kind, native_rule_count, kube_rule_count, peers_of, port_count, except_count}
use Rattle.cluster_types.specs.Egress.{EgressData, addresses_of_node}
use Rattle.cluster_types.specs.Limits.{max_nodes, max_namespaces, max_pods, max_tiers, max_policies, max_egresses, max_rules, max_peers, max_ports, max_applied, max_excepts, max_native_rules, max_kube_rules, max_named_ports, max_marks}
use Rattle.cluster_types.specs.Node.{NamespaceData, NodeData, nodes_meet}
use Rattle.cluster_types.specs.Pod.{PodData, counts, has_address}
use Rattle.cluster_types.specs.Policy.{PolicyData}
use Rattle.cluster_types.specs.Steps.{is_kube}
use Rattle.cluster_types.specs.Tier.{TierData, static_tiers, HasStaticTiers, tier_named, name_meant}
use Rattle.cluster_types.specs.Whole.{IsWholeNode, IsWholeNamespace, IsWholePod, IsWholePolicy, IsWholeEgress}

-- the objects of a cluster, each kind in ascending order of its keys, and whether its nodes are fixed
pub record ClusterData : Type 0 where
  pub nodes : List NodeData
  pub fixed : Bool
  pub namespaces : List NamespaceData
  pub pods : List PodData
  pub tiers : List TierData
  pub policies : List PolicyData
  pub egresses : List EgressData

-- the static tiers and nothing else
abbrev pub no_objects : ClusterData
no_objects = record { nodes = []; fixed = false; namespaces = []; pods = []; tiers = static_tiers; policies = []; egresses = [] }

-- ---- what every cluster keeps

-- where both pods count, no address is both's
abbrev pub AreApart : PodData → PodData → Type 0
AreApart p q = IsTrue (counts p) → IsTrue (counts q) → (a : Addr) → IsTrue (has_address a p) → IsTrue (has_address a q) → ⊥

-- any two of the pods are apart
abbrev pub AllApart : List PodData → Type 0
AllApart [] = Unit {0}
AllApart (p ∷ ps) = AllByRecursion (AreApart p) ps × AllApart ps

-- no blocks of any two of the nodes meet
abbrev pub AllBlocksApart : List NodeData → Type 0
AllBlocksApart [] = Unit {0}
AllBlocksApart (n ∷ ns) = AllByRecursion (λ (m : NodeData). nodes_meet n m ≡ false) ns × AllBlocksApart ns

-- a tier is there, and the rules have its number
abbrev pub AreInTier : List Rule → Option TierData → Type 0
AreInTier rules None = ⊥
AreInTier rules (Some t) = AllByRecursion (λ (r : Rule). r.key.tier ≡ t.priority) rules

-- the tier that a native policy means is there, and the policy's rules have its number
abbrev pub HasTier : List TierData → PolicyData → Type 0
HasTier tiers p = is_kube p.key.kind ≡ false → AreInTier p.rules (tier_named (name_meant p.tier) tiers)

-- there are marks enough for the different addresses of which the node is the egress node
abbrev pub HasMarksEnough : List EgressData → NodeData → Type 0
HasMarksEnough egresses n = length (sorted_set addr_order (addresses_of_node n.name egresses)) ≤ max_marks

-- there is nothing but nodes and the static tiers
pub record HasNodesAlone (c : ClusterData) : Type 0 where
  pub namespaces : c.namespaces ≡ []
  pub pods : c.pods ≡ []
  pub tiers : c.tiers ≡ static_tiers
  pub policies : c.policies ≡ []
  pub egresses : c.egresses ≡ []

-- the lists of a rule pass no limit
pub record IsRuleWithinLimits (r : Rule) : Type 0 where
  pub peers : length (peers_of r) ≤ max_peers
  pub ports : port_count r ≤ max_ports
  pub excepts : AllByRecursion (λ (p : Peer). except_count p ≤ max_excepts) (peers_of r)

-- nor do those of a policy and of its rules
pub record IsPolicyWithinLimits (p : PolicyData) : Type 0 where
  pub rules : length p.rules ≤ max_rules
  pub applied : length p.applied ≤ max_applied
  pub each_rule : AllByRecursion IsRuleWithinLimits p.rules

-- nor the named ports of a pod
abbrev pub IsPodWithinLimits : PodData → Type 0
IsPodWithinLimits p = length p.ports ≤ max_named_ports

-- no limit is passed
pub record IsWithinLimits (c : ClusterData) : Type 0 where
  pub nodes : length c.nodes ≤ max_nodes
  pub namespaces : length c.namespaces ≤ max_namespaces
  pub pods : length c.pods ≤ max_pods
  pub tiers : length c.tiers ≤ max_tiers
  pub policies : (kind : PolicyKind) → total (count_of_kind kind) c.policies ≤ max_policies
  pub egresses : length c.egresses ≤ max_egresses
  pub each_policy : AllByRecursion IsPolicyWithinLimits c.policies
  pub native_rules : total native_rule_count c.policies ≤ max_native_rules
  pub kube_rules : total kube_rule_count c.policies ≤ max_kube_rules
  pub each_pod : AllByRecursion IsPodWithinLimits c.pods

-- each part has what its type keeps
pub record HasWholeParts (c : ClusterData) : Type 0 where
  pub nodes : AllByRecursion IsWholeNode c.nodes
  pub namespaces : AllByRecursion IsWholeNamespace c.namespaces
  pub pods : AllByRecursion IsWholePod c.pods
  pub policies : AllByRecursion IsWholePolicy c.policies
  pub egresses : AllByRecursion IsWholeEgress c.egresses

-- Each kind ascends by its keys, tiers by their priorities, without a repeat. No two counting pods share an address.
-- While the nodes aren't fixed, nothing but nodes and the static tiers is there. The static tiers are there with their
-- priorities; the tier of each native policy is there, and its rules have that tier's number. Blocks of two nodes don't
-- meet. No limit is passed, and the addresses of no listed node are more than the marks. Each part has what its type keeps.
pub record IsCluster (c : ClusterData) : Type 0 where
  pub nodes_ascend : Ascends (λ (n : NodeData). n.name) (slice_cmp nat_cmp) c.nodes
  pub namespaces_ascend : Ascends (λ (n : NamespaceData). n.name) (slice_cmp nat_cmp) c.namespaces
  pub pods_ascend : Ascends (λ (p : PodData). p.key) pod_order c.pods
  pub tiers_ascend : Ascends (λ (t : TierData). t.priority) nat_cmp c.tiers
  pub policies_ascend : Ascends (λ (p : PolicyData). p.key) policy_order c.policies
  pub egresses_ascend : Ascends (λ (e : EgressData). e.name) (slice_cmp nat_cmp) c.egresses
  pub apart : AllApart c.pods
  pub early : c.fixed ≡ false → HasNodesAlone c
  pub static : HasStaticTiers c.tiers
  pub in_tiers : AllByRecursion (HasTier c.tiers) c.policies
  pub blocks_apart : AllBlocksApart c.nodes
  pub limits : IsWithinLimits c
  pub marks : AllByRecursion (HasMarksEnough c.egresses) c.nodes
  pub parts : HasWholeParts c

-- ---- a cluster in memory

-- how many objects of each kind have a place in memory
pub record Places : Type 0 where
  pub nodes : ℕ
  pub namespaces : ℕ
  pub pods : ℕ
  pub tiers : ℕ
  pub policies : ℕ
  pub egresses : ℕ

-- a cluster and its places
pub record ClusterState : Type 0 where
  pub cluster : ClusterData
  pub places : Places

-- there is a place for each object
pub record HasPlaces (c : ClusterData) (p : Places) : Type 0 where
  pub nodes : length c.nodes ≤ p.nodes
  pub namespaces : length c.namespaces ≤ p.namespaces
  pub pods : length c.pods ≤ p.pods
  pub tiers : length c.tiers ≤ p.tiers
  pub policies : length c.policies ≤ p.policies
  pub egresses : length c.egresses ≤ p.egresses

pub record IsState (s : ClusterState) : Type 0 where
  pub cluster : IsCluster s.cluster
  pub places : HasPlaces s.cluster s.places

-- no kind has fewer places than before
pub record KeepsPlaces (old new : Places) : Type 0 where
  pub nodes : old.nodes ≤ new.nodes
  pub namespaces : old.namespaces ≤ new.namespaces
  pub pods : old.pods ≤ new.pods
  pub tiers : old.tiers ≤ new.tiers
  pub policies : old.policies ≤ new.policies
  pub egresses : old.egresses ≤ new.egresses
