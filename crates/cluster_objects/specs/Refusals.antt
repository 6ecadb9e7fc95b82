-- Why a change of a cluster is refused (this project's own rules).
use Rattle.std.specs.Prelude.{ℕ, List, [], ◌∷◌, length, Bool, false, not, ◌&&◌, ◌==◌, nat_lt, Option, Some, None, option_map, if◌then◌else◌, find}
use Rattle.std.specs.Option.{is_some, is_none, option_map_or}
use Rattle.std.specs.List.{list_any}
use Rattle.std.specs.Ordering.{is_eq}
use Rattle.cl_types.specs.Addr.{addr_order}
use Rattle.cl_types.specs.Ascending.{put, sorted_set}
use Rattle.cl_types.specs.RuleOrder.{pod_order}
use Rattle.cl_types.specs.Text.{text_eq}
use Rattle.cluster_types.specs.declared.change.Change.{Change}
use Rattle.cluster_types.specs.declared.change.Change.TheVariants.{Put, Remove}
use Rattle.cluster_objects.specs.declared.change.ClusterRefusal.{ClusterRefusal}
use Rattle.cluster_objects.specs.declared.change.ClusterRefusal.TheVariants.{NodesFixed, CidrOverlap, TierFixed, TierTaken, TierInUse, NoSuchTier, AddressInUse, TooMany, TooManyMarks}
use Rattle.cluster_types.specs.declared.change.Object.TheVariants as object
use Rattle.cluster_types.specs.declared.change.ObjectKey.TheVariants as key
use Rattle.cluster_types.specs.declared.policy.Peer.{Peer}
use Rattle.cluster_types.specs.declared.policy.Rule.{Rule}
use Rattle.cluster_objects.specs.declared.totals.Total.{Total}
use Rattle.cluster_objects.specs.declared.totals.Total.TheVariants.{PoliciesOf, NativeRules, KubeRules}
use Rattle.cluster_objects.specs.Apply.{makes_difference, made, at_node, at_namespace, at_pod, at_tier, at_policy, at_egress, tier_of_policy}
use Rattle.cluster_types.specs.Cluster.{ClusterData}
use Rattle.cluster_types.specs.Counts.{total, count_of_kind, native_rule_count, kube_rule_count, peers_of, port_count, except_count}
use Rattle.cluster_types.specs.Egress.{EgressData, addresses_beside}
use Rattle.cluster_types.specs.Limits.{max_nodes, max_namespaces, max_pods, max_tiers, max_policies, max_egresses, max_rules, max_peers, max_ports, max_applied, max_excepts, max_native_rules, max_kube_rules, max_named_ports, max_marks}
use Rattle.cluster_types.specs.Node.{NodeData, nodes_meet}
use Rattle.cluster_types.specs.Pod.{PodData, counts, has_address}
use Rattle.cluster_types.specs.Policy.{PolicyData}
use Rattle.cluster_types.specs.Steps.{is_kube}
use Rattle.cluster_types.specs.Tier.{TierData, tier_named, name_meant, is_static}

abbrev pub when : Bool → ClusterRefusal → Option ClusterRefusal
when b refusal = if b then Some refusal else None

-- ---- nodes

-- once the nodes are fixed, no change of a Node may make a difference
abbrev pub nodes_fixed : ClusterData → Change → Option ClusterRefusal
nodes_fixed c change = when (c.fixed && makes_difference (made c change).applied) NodesFixed

-- the first other node with a block that meets one of the node
abbrev pub cidr_overlap : ClusterData → NodeData → Option ClusterRefusal
cidr_overlap c n =
    option_map (λ (m : NodeData). CidrOverlap m.name) (find (λ (m : NodeData). not (text_eq m.name n.name) && nodes_meet n m) c.nodes)

-- ---- tiers

-- the tier is there with another priority
abbrev pub tier_fixed : ClusterData → TierData → Option ClusterRefusal
tier_fixed c t = when (option_map_or (λ (s : TierData). not (s.priority == t.priority)) (tier_named t.name c.tiers) false) TierFixed

-- the tier with a name other than this one
abbrev pub tier_taken : ClusterData → TierData → Option ClusterRefusal
tier_taken c t =
    option_map (λ (s : TierData). TierTaken s.name) (find (λ (s : TierData). not (text_eq s.name t.name) && (s.priority == t.priority)) c.tiers)

abbrev pub static_removed : List ℕ → Option ClusterRefusal
static_removed name = when (is_static name) TierFixed

-- a native policy means the tier with the name
abbrev pub names_tier : List ℕ → PolicyData → Bool
names_tier name p = not (is_kube p.key.kind) && text_eq name (name_meant p.tier)

-- the tier is there, and this is the first policy that means it
abbrev pub tier_in_use : ClusterData → List ℕ → Option ClusterRefusal
tier_in_use c name =
    if is_some (tier_named name c.tiers)
    then option_map (λ (p : PolicyData). TierInUse p.key) (find (names_tier name) c.policies)
    else None

abbrev pub no_such_tier : ClusterData → PolicyData → Option ClusterRefusal
no_such_tier c p = when (not (is_kube p.key.kind) && is_none (tier_of_policy c p)) (NoSuchTier p.tier)

-- ---- addresses

-- another counting pod has an address of the pod
abbrev pub takes_address : PodData → PodData → Bool
takes_address p other = not (is_eq (pod_order other.key p.key)) && counts other && list_any (λ a. has_address a other) p.addresses

-- the first other counting pod that has an address of a pod that counts
abbrev pub address_taker : ClusterData → PodData → Option PodData
address_taker c p = if counts p then find (takes_address p) c.pods else None

abbrev pub address_in_use : ClusterData → PodData → Option ClusterRefusal
address_in_use c p = option_map (λ (other : PodData). AddressInUse other.key) (address_taker c p)

-- ---- limits

-- there would be more than the limit
abbrev pub over : ℕ → ℕ → Option ClusterRefusal
over limit count = when (nat_lt limit count) (TooMany limit)

-- some of these has more than the limit
abbrev pub some_over : {T : Type 0} → ℕ → (T → ℕ) → List T → Option ClusterRefusal
some_over limit count xs = when (list_any (λ x. nat_lt limit (count x)) xs) (TooMany limit)

-- as how many a policy counts in a total of policies of a kind, of native rules, of Kubernetes rules
abbrev pub counted : Total → PolicyData → ℕ
counted (PoliciesOf kind) = count_of_kind kind
counted NativeRules = native_rule_count
counted KubeRules = kube_rule_count

-- the total would pass the limit once the policy is put
abbrev pub total_over : ℕ → Total → List PolicyData → PolicyData → Option ClusterRefusal
total_over limit which policies p = over limit (total (counted which) (put (at_policy p.key) p policies))

-- some block of the rule has more excepts than the limit
abbrev pub excepts_over : Rule → Bool
excepts_over r = list_any (λ (p : Peer). nat_lt max_excepts (except_count p)) (peers_of r)

-- ---- Egresses

-- the node is listed, and has more addresses than there are marks once the Egress is put
abbrev pub too_many_marks : ClusterData → EgressData → Option ClusterRefusal
too_many_marks c e =
    when (list_any (λ (n : NodeData). text_eq n.name e.node) c.nodes && nat_lt max_marks (length (sorted_set addr_order (addresses_beside e c.egresses))))
    (TooManyMarks e.node)

-- ---- the table

-- the limits of a policy in their order: of its kind, of the policy and its lists, of the rules in all
abbrev pub rule_limits : List PolicyData → PolicyData → List (Option ClusterRefusal)
rule_limits policies p =
    total_over max_native_rules NativeRules policies p
    ∷ total_over max_kube_rules KubeRules policies p
    ∷ []

abbrev pub list_limits : List PolicyData → PolicyData → List (Option ClusterRefusal)
list_limits policies p =
    some_over max_peers (λ (r : Rule). length (peers_of r)) p.rules
    ∷ some_over max_ports port_count p.rules
    ∷ over max_applied (length p.applied)
    ∷ when (list_any excepts_over p.rules) (TooMany max_excepts)
    ∷ rule_limits policies p

abbrev pub policy_limits : List PolicyData → PolicyData → List (Option ClusterRefusal)
policy_limits policies p =
    total_over max_policies (PoliciesOf p.key.kind) policies p
    ∷ over max_rules (length p.rules)
    ∷ list_limits policies p

-- what may stand against a change, in the order in which it is looked at
abbrev pub checks : ClusterData → Change → List (Option ClusterRefusal)
checks c (Put (object.Node n)) =
    nodes_fixed c (Put (object.Node n))
    ∷ cidr_overlap c n
    ∷ over max_nodes (length (put (at_node n.name) n c.nodes))
    ∷ []
checks c (Put (object.Namespace n)) = over max_namespaces (length (put (at_namespace n.name) n c.namespaces)) ∷ []
checks c (Put (object.Pod p)) =
    address_in_use c p
    ∷ over max_pods (length (put (at_pod p.key) p c.pods))
    ∷ over max_named_ports (length p.ports)
    ∷ []
checks c (Put (object.Tier t)) =
    tier_fixed c t
    ∷ tier_taken c t
    ∷ over max_tiers (length (put (at_tier t.priority) t c.tiers))
    ∷ []
checks c (Put (object.Policy p)) =
    no_such_tier c p
    ∷ policy_limits c.policies p
checks c (Put (object.Egress e)) =
    over max_egresses (length (put (at_egress e.name) e c.egresses))
    ∷ too_many_marks c e
    ∷ []
checks c (Remove (key.Node name)) = nodes_fixed c (Remove (key.Node name)) ∷ []
checks c (Remove (key.Tier name)) = static_removed name ∷ tier_in_use c name ∷ []
checks c (Remove _) = []

abbrev pub first_refusal : List (Option ClusterRefusal) → Option ClusterRefusal
first_refusal [] = None
first_refusal (None ∷ rest) = first_refusal rest
first_refusal (Some refusal ∷ rest) = Some refusal
