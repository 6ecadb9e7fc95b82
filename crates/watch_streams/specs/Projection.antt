-- What belongs on a stream of a node at a cluster (this project's own; Antrea's controller computes the same spans and
-- groups).
use Rattle.std.specs.Prelude.{ℕ, List, [], ◌∷◌, ◌++◌, Bool, true, false, ◌&&◌, ◌||◌, filter, map, Option, Some, None, option_map, if◌then◌else◌}
use Rattle.std.specs.List.{list_any, flat_map}
use Rattle.cl_types.specs.declared.addr.Addr.{Addr}
use Rattle.cl_types.specs.declared.keys.Dir.{Dir}
use Rattle.cl_types.specs.declared.keys.Dir.TheVariants.{Egress, Ingress}
use Rattle.cl_types.specs.declared.service.PortName.{PortName}
use Rattle.cl_types.specs.declared.stream.Stream.{Stream}
use Rattle.cl_types.specs.declared.stream.Stream.TheVariants.{Policies, Addresses, Applied}
use Rattle.cl_types.specs.Ascending.{sorted_by}
use Rattle.cl_types.specs.Text.{text_eq}
use Rattle.label_select.specs.declared.group.Scope.TheVariants.{Namespaces}
use Rattle.label_select.specs.Group.{Group}
use Rattle.label_select.specs.Written.{group_text}
use Rattle.cluster_types.specs.Egress.{EgressData}
use Rattle.cluster_types.specs.declared.policy.Block.{Block}
use Rattle.cluster_types.specs.declared.policy.Peer.{Peer}
use Rattle.cluster_types.specs.declared.policy.Peer.TheVariants as peer
use Rattle.cluster_types.specs.declared.policy.Rule.{Rule}
use Rattle.cluster_types.specs.Evaluation.{applies}
use Rattle.cluster_types.specs.Choice.{egress_counts}
use Rattle.cluster_types.specs.Groups.{in_group, members_by}
use Rattle.cluster_types.specs.Pod.{PodData}
use Rattle.cluster_types.specs.Policy.{PolicyData}
use Rattle.cluster_types.specs.Cluster.{ClusterData}
use Rattle.watch_streams.specs.declared.message.StreamObject.{StreamObject}
use Rattle.watch_streams.specs.declared.message.StreamObject.TheVariants as object
use Rattle.watch_streams.specs.declared.net.NetPeers.{NetPeers}
use Rattle.watch_streams.specs.declared.net.NetRule.{NetRule}
use Rattle.cl_types.specs.Text.{text_order}
use Rattle.watch_streams.specs.Names.{by_name}
use Rattle.watch_streams.specs.Net.{NetPolicyData, NetEgressData, MemberData, ascending_members}

-- ---- policies with groups in place of selectors

-- groups in the order of their texts, none twice
abbrev pub groups_by_text : List Group → List Group
groups_by_text = sorted_by group_text text_order

abbrev pub peer_groups : Peer → List Group
peer_groups (peer.Group g) = g ∷ []
peer_groups (peer.Block b) = []
peer_groups peer.Never = []

abbrev pub peer_blocks : Peer → List Block
peer_blocks (peer.Group g) = []
peer_blocks (peer.Block b) = b ∷ []
peer_blocks peer.Never = []

abbrev pub net_peers : List Peer → NetPeers
net_peers peers = record { groups = groups_by_text (flat_map peer_groups peers); blocks = flat_map peer_blocks peers }

abbrev pub net_rule : Rule → NetRule
net_rule r = record { key = r.key; action = r.action; peers = option_map net_peers r.peers; services = r.services; named = r.named }

abbrev pub net_policy : PolicyData → NetPolicyData
net_policy p =
    record { key = p.key; applied = p.applied; isolates_in = p.isolates_in; isolates_out = p.isolates_out; rules = map net_rule p.rules }

abbrev pub net_egress : EgressData → NetEgressData
net_egress e = record { name = e.name; address = e.address; node = e.node; applied = e.applied }

-- ---- members of groups

-- the member that an address of the pod makes
abbrev pub held_member : PodData → Addr → MemberData
held_member p a = record { address = a; ports = p.ports }

abbrev pub pod_members : PodData → List MemberData
pod_members p = map (held_member p) p.addresses

abbrev pub group_members : ClusterData → Group → List MemberData
group_members c g = ascending_members (members_by held_member c g)

abbrev pub is_on : List ℕ → PodData → Bool
is_on node p = text_eq p.node node

abbrev pub members_on : ClusterData → List ℕ → Group → List MemberData
members_on c node g = ascending_members (flat_map pod_members (filter (λ p. is_on node p && in_group c g p) c.pods))

-- ---- what concerns a node

-- the policy applies to a counting pod on the node
abbrev pub policy_is_on : ClusterData → List ℕ → PolicyData → Bool
policy_is_on c node policy = list_any (λ p. is_on node p && applies c policy p) c.pods

-- the Egress counts, and selects a counting pod on the node or leaves by it
abbrev pub egress_is_on : ClusterData → List ℕ → EgressData → Bool
egress_is_on c node e = egress_counts c e && (text_eq e.node node || list_any (λ p. is_on node p && in_group c e.applied p) c.pods)

abbrev pub policies_on : ClusterData → List ℕ → List PolicyData
policies_on c node = filter (policy_is_on c node) c.policies

abbrev pub egresses_on : ClusterData → List ℕ → List EgressData
egresses_on c node = filter (egress_is_on c node) c.egresses

-- all pods
abbrev pub all_pods : Group
all_pods = record { scope = Namespaces (record { needs = [] }); pods = record { needs = [] } }

abbrev pub is_egress : Dir → Bool
is_egress Ingress = false
is_egress Egress = true

abbrev pub has_names : List PortName → Bool
has_names [] = false
has_names (name ∷ names) = true

-- A rule's peers by groups. An Egress rule without peers that names ports is for all pods.
abbrev pub rule_groups : Rule → Option (List Peer) → List Group
rule_groups r (Some peers) = flat_map peer_groups peers
rule_groups r None = if is_egress r.key.dir && has_names r.named then all_pods ∷ [] else []

abbrev pub policy_groups : PolicyData → List Group
policy_groups p = flat_map (λ (r : Rule). rule_groups r r.peers) p.rules

-- ---- the streams

abbrev pub group_object : (Group → List MemberData) → Group → StreamObject
group_object members g = object.Group g (members g)

-- the policies and the Egresses that concern the node
abbrev pub on_policies : ClusterData → List ℕ → List StreamObject
on_policies c node =
    map (λ p. object.Policy (net_policy p)) (policies_on c node) ++ map (λ e. object.Egress (net_egress e)) (egresses_on c node)

-- the groups of peers of these policies, with all their members
abbrev pub on_addresses : ClusterData → List ℕ → List StreamObject
on_addresses c node = map (group_object (group_members c)) (flat_map policy_groups (policies_on c node))

-- the groups to which these policies and Egresses apply, with their members on the node
abbrev pub on_applied : ClusterData → List ℕ → List StreamObject
on_applied c node =
    map (group_object (members_on c node))
    (flat_map (λ (p : PolicyData). p.applied) (policies_on c node) ++ map (λ (e : EgressData). e.applied) (egresses_on c node))

-- what belongs on a stream of a node, in the order of names
abbrev pub projection : ClusterData → Stream → List ℕ → List StreamObject
projection c Policies node = by_name (on_policies c node)
projection c Addresses node = by_name (on_addresses c node)
projection c Applied node = by_name (on_applied c node)
