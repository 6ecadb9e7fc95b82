-- What stands on a stream of a node under one name, read from the cluster without the rest of the stream (this
-- project's own).
use Rattle.std.specs.Prelude.{◌≡◌, ℕ, List, Bool, ◌&&◌, ◌||◌, Option, Some, None, option_map, if◌then◌else◌}
use Rattle.std.specs.List.{list_any}
use Rattle.std.specs.declared.cmp.Ordering.{Ordering}
use Rattle.std.specs.Ordering.{is_eq}
use Rattle.cl_types.specs.declared.stream.Stream.{Stream}
use Rattle.cl_types.specs.declared.stream.Stream.TheVariants.{Policies, Addresses, Applied}
use Rattle.cl_types.specs.Ascending.{found}
use Rattle.cl_types.specs.AscendingLaws.{passed}
use Rattle.cl_types.specs.PolicyName.{PolicyName, IsPolicyName}
use Rattle.cl_types.specs.RuleOrder.{policy_order}
use Rattle.cl_types.specs.Text.{text_order}
use Rattle.label_select.specs.Group.{Group, IsGroup}
use Rattle.label_select.specs.Written.{group_text}
use Rattle.cluster_types.specs.Cluster.{ClusterData, IsCluster}
use Rattle.cluster_types.specs.Egress.{EgressData}
use Rattle.cluster_types.specs.Policy.{PolicyData}
use Rattle.watch_streams.specs.declared.message.StreamName.{StreamName}
use Rattle.watch_streams.specs.declared.message.StreamName.TheVariants as name
use Rattle.watch_streams.specs.declared.message.StreamObject.{StreamObject}
use Rattle.watch_streams.specs.declared.message.StreamObject.TheVariants as object
use Rattle.watch_streams.specs.Names.{at_text, name_text}
use Rattle.watch_streams.specs.Net.{MemberData}
use Rattle.watch_streams.specs.Projection.{egress_is_on, group_members, group_object, members_on, net_egress, net_policy, policy_groups, policy_is_on, projection}

-- ---- policies and Egresses

abbrev pub at_policy : PolicyName → PolicyData → Ordering
at_policy key p = policy_order p.key key

abbrev pub at_egress : List ℕ → EgressData → Ordering
at_egress text e = text_order e.name text

abbrev pub policy_object : PolicyData → StreamObject
policy_object p = object.Policy (net_policy p)

abbrev pub egress_object : EgressData → StreamObject
egress_object e = object.Egress (net_egress e)

-- the policy of the key, where there is one and it concerns the node
abbrev pub policy_standing : ClusterData → List ℕ → PolicyName → Option StreamObject
policy_standing c node key = option_map policy_object (passed (policy_is_on c node) (found (at_policy key) c.policies))

-- the Egress of the name, where there is one and it concerns the node
abbrev pub egress_standing : ClusterData → List ℕ → List ℕ → Option StreamObject
egress_standing c node text = option_map egress_object (passed (egress_is_on c node) (found (at_egress text) c.egresses))

-- ---- groups

-- the groups have one text, and so are one
abbrev pub is_group : Group → Group → Bool
is_group g other = is_eq (text_order (group_text other) (group_text g))

abbrev pub has_group : List Group → Group → Bool
has_group groups g = list_any (is_group g) groups

-- the group is one of the peers of a policy that concerns the node
abbrev pub is_peer_on : ClusterData → List ℕ → Group → Bool
is_peer_on c node g = list_any (λ p. policy_is_on c node p && has_group (policy_groups p) g) c.policies

-- a policy or an Egress that concerns the node applies to the group
abbrev pub is_applied_on : ClusterData → List ℕ → Group → Bool
is_applied_on c node g =
    list_any (λ (p : PolicyData). policy_is_on c node p && has_group p.applied g) c.policies
    || list_any (λ (e : EgressData). egress_is_on c node e && is_group g e.applied) c.egresses

-- the group with these members, where it is there
abbrev pub group_standing : Bool → (Group → List MemberData) → Group → Option StreamObject
group_standing there members g = if there then Some (group_object members g) else None

-- ---- names

-- what stands on the stream under the name: policies and Egresses on the one stream, groups on the others
abbrev pub standing : ClusterData → Stream → List ℕ → StreamName → Option StreamObject
standing c Policies node (name.Policy key) = policy_standing c node key
standing c Policies node (name.Egress text) = egress_standing c node text
standing c Policies node (name.Group g) = None
standing c Addresses node (name.Policy key) = None
standing c Addresses node (name.Egress text) = None
standing c Addresses node (name.Group g) = group_standing (is_peer_on c node g) (group_members c) g
standing c Applied node (name.Policy key) = None
standing c Applied node (name.Egress text) = None
standing c Applied node (name.Group g) = group_standing (is_applied_on c node g) (members_on c node) g

-- what the types of names keep, with all that is in them
abbrev pub IsName : StreamName → Type 0
IsName (name.Policy key) = IsPolicyName key.kind key.namespace key.name
IsName (name.Egress text) = Unit {0}
IsName (name.Group g) = IsGroup g

-- this is what is found there among all that belongs on the stream
abbrev pub NamesStandAlone : Type 0
NamesStandAlone =
    (c : ClusterData) (s : Stream) (node : List ℕ) (n : StreamName) → IsCluster c → IsName n →
    found (at_text (name_text n)) (projection c s node) ≡ standing c s node n
