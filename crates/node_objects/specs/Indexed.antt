-- What belongs on a stream of a node, read from a cluster and an index of groups (this project's own).
use Rattle.std.specs.Prelude.{ℕ, List, [], ◌∷◌, ◌++◌, Bool, ◌&&◌, ◌||◌, cond, filter, map}
use Rattle.std.specs.List.{flat_map, list_any}
use Rattle.cl_types.specs.declared.stream.Stream.{Stream}
use Rattle.cl_types.specs.declared.stream.Stream.TheVariants.{Policies, Addresses, Applied}
use Rattle.cl_types.specs.Text.{text_eq}
use Rattle.label_select.specs.Group.{Group}
use Rattle.cluster_types.specs.Choice.{egress_counts}
use Rattle.cluster_types.specs.Cluster.{ClusterData}
use Rattle.cluster_types.specs.Egress.{EgressData}
use Rattle.cluster_types.specs.Policy.{PolicyData}
use Rattle.group_index.specs.Index.{EntryData, entry_of, has_node, members_in}
use Rattle.group_index.specs.Members as index
use Rattle.watch_streams.specs.declared.message.StreamObject.{StreamObject}
use Rattle.watch_streams.specs.declared.message.StreamObject.TheVariants as object
use Rattle.watch_streams.specs.Names.{by_name}
use Rattle.watch_streams.specs.Net.{MemberData}
use Rattle.watch_streams.specs.Projection.{group_object, groups_by_text, net_egress, net_policy, policy_groups}

-- ---- members

-- the members of a group, none where it isn't in use
abbrev pub indexed_members : List EntryData → Group → List index.MemberData
indexed_members groups g = members_in (entry_of groups g)

-- a member as agents are told it
abbrev pub told : index.MemberData → MemberData
told m = record { address = m.address; ports = m.ports }

abbrev pub told_on : List ℕ → List index.MemberData → List MemberData
told_on node members = map told (filter (index.is_member_on node) members)

-- all members of a group, and those on a node
abbrev pub all_told : List EntryData → Group → List MemberData
all_told groups g = map told (indexed_members groups g)

abbrev pub on_told : List EntryData → List ℕ → Group → List MemberData
on_told groups node g = told_on node (indexed_members groups g)

-- ---- what concerns a node

abbrev pub is_policy_on : List EntryData → List ℕ → PolicyData → Bool
is_policy_on groups node p = list_any (λ g. has_node groups g node) p.applied

abbrev pub is_egress_on : ClusterData → List EntryData → List ℕ → EgressData → Bool
is_egress_on c groups node e = egress_counts c e && (text_eq e.node node || has_node groups e.applied node)

-- ---- what a policy or an Egress puts on the streams of the node

abbrev pub policy_objects : List EntryData → List ℕ → PolicyData → List StreamObject
policy_objects groups node p = cond (is_policy_on groups node p) (object.Policy (net_policy p) ∷ []) []

abbrev pub egress_objects : ClusterData → List EntryData → List ℕ → EgressData → List StreamObject
egress_objects c groups node e = cond (is_egress_on c groups node e) (object.Egress (net_egress e) ∷ []) []

abbrev pub peer_groups_on : List EntryData → List ℕ → PolicyData → List Group
peer_groups_on groups node p = cond (is_policy_on groups node p) (policy_groups p) []

abbrev pub policy_applied_on : List EntryData → List ℕ → PolicyData → List Group
policy_applied_on groups node p = cond (is_policy_on groups node p) p.applied []

abbrev pub egress_applied_on : ClusterData → List EntryData → List ℕ → EgressData → List Group
egress_applied_on c groups node e = cond (is_egress_on c groups node e) (e.applied ∷ []) []

-- ---- the streams

abbrev pub all_objects : ClusterData → List EntryData → List ℕ → List StreamObject
all_objects c groups node = flat_map (policy_objects groups node) c.policies ++ flat_map (egress_objects c groups node) c.egresses

abbrev pub peer_groups_of : ClusterData → List EntryData → List ℕ → List Group
peer_groups_of c groups node = flat_map (peer_groups_on groups node) c.policies

abbrev pub applied_groups_of : ClusterData → List EntryData → List ℕ → List Group
applied_groups_of c groups node = flat_map (policy_applied_on groups node) c.policies ++ flat_map (egress_applied_on c groups node) c.egresses

-- groups as objects, with what is told of their members, in the order of their texts
abbrev pub group_objects : (Group → List MemberData) → List Group → List StreamObject
group_objects members groups = map (group_object members) (groups_by_text groups)

abbrev pub indexed : ClusterData → List EntryData → Stream → List ℕ → List StreamObject
indexed c groups Policies node = by_name (all_objects c groups node)
indexed c groups Addresses node = group_objects (all_told groups) (peer_groups_of c groups node)
indexed c groups Applied node = group_objects (on_told groups node) (applied_groups_of c groups node)
