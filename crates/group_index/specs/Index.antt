-- The groups that are in use, with their members (this project's own; Antrea keeps such an index of groups and pods).
use Rattle.std.specs.Prelude.{◌≡◌, Bool, ℕ, ◌+◌, ◌-◌, ◌≤◌, ◌==◌, ◌&&◌, List, [], ◌∷◌, filter, map, Option, Some, None, if◌then◌else◌}
use Rattle.std.specs.List.{AllByRecursion, flat_map, list_any}
use Rattle.std.specs.Ordering.{is_eq}
use Rattle.std.specs.declared.cmp.Ordering.{Ordering}
use Rattle.cl_types.specs.declared.keys.PodKey.{PodKey}
use Rattle.cl_types.specs.Ascending.{Ascends, found, put, sorted_set, without}
use Rattle.cl_types.specs.RuleOrder.{pod_order}
use Rattle.cl_types.specs.Text.{text_order}
use Rattle.label_select.specs.Group.{Group}
use Rattle.label_select.specs.Written.{group_text}
use Rattle.cluster_types.specs.Cluster.{ClusterData}
use Rattle.cluster_types.specs.Groups.{in_group}
use Rattle.cluster_types.specs.Pod.{PodData}
use Rattle.group_index.specs.Members.{MemberData, is_member_on, is_of, members_of}

-- a group in use: how often, and its members
pub record EntryData : Type 0 where
  pub group : Group
  pub uses : ℕ
  pub members : List MemberData

abbrev pub entry_text : EntryData → List ℕ
entry_text e = group_text e.group

-- what an entry keeps, and the text beside it
pub record IsEntry (text : List ℕ) (group : Group) (uses : ℕ) : Type 0 where
  pub text_is : text ≡ group_text group
  pub used : 1 ≤ uses

-- the groups in use ascend by their texts
abbrev pub IsIndex : List EntryData → Type 0
IsIndex = Ascends entry_text text_order

-- how an entry stands to the group that is sought, by the texts
abbrev pub at_group : Group → EntryData → Ordering
at_group g e = text_order (entry_text e) (group_text g)

-- the entry of a group in use
abbrev pub entry_of : List EntryData → Group → Option EntryData
entry_of index g = found (at_group g) index

-- the members of each group in use are those at the cluster
abbrev pub StandsFor : List EntryData → ClusterData → Type 0
StandsFor index c = AllByRecursion (λ (e : EntryData). e.members ≡ members_of c e.group) index

-- ---- uses

abbrev pub first_use : ClusterData → Group → EntryData
first_use c g = record { group = g; uses = 1; members = members_of c g }

abbrev pub used_again : EntryData → EntryData
used_again e = record { group = e.group; uses = e.uses + 1; members = e.members }

abbrev pub used_less : EntryData → EntryData
used_less e = record { group = e.group; uses = e.uses - 1; members = e.members }

abbrev pub more_use : ClusterData → Group → Option EntryData → EntryData
more_use c g (Some e) = used_again e
more_use c g None = first_use c g

-- the index with one more use of the group
unfoldable pub with_use : ClusterData → Group → List EntryData → List EntryData
with_use c g index = put (at_group g) (more_use c g (entry_of index g)) index

abbrev pub less_use : Group → List EntryData → Option EntryData → List EntryData
less_use g index (Some e) = if e.uses == 1 then without (at_group g) index else put (at_group g) (used_less e) index
less_use g index None = index

-- the index with one use of the group less, and without the group after its last one
unfoldable pub without_use : Group → List EntryData → List EntryData
without_use g index = less_use g index (entry_of index g)

-- ---- what is read

-- a member of the group is of the pod
abbrev pub has_pod : PodKey → EntryData → Bool
has_pod pod e = list_any (is_of pod) e.members

abbrev pub group_if_has : PodKey → EntryData → List Group
group_if_has pod e = if has_pod pod e then e.group ∷ [] else []

-- the groups in use that contain the pod, by their texts
unfoldable pub groups_of : List EntryData → PodKey → List Group
groups_of index pod = flat_map (group_if_has pod) index

-- the pod is the one with the key, and the group contains it
abbrev pub is_pod_in : ClusterData → Group → PodKey → PodData → Bool
is_pod_in c g key p = in_group c g p && is_eq (pod_order p.key key)

-- the group contains the pod with the key
abbrev pub contains_pod : ClusterData → PodKey → Group → Bool
contains_pod c key g = list_any (is_pod_in c g key) c.pods

-- the groups that contain the pod at the cluster
abbrev pub groups_with : ClusterData → PodKey → List Group → List Group
groups_with c key groups = filter (contains_pod c key) groups

abbrev pub members_in : Option EntryData → List MemberData
members_in (Some e) = e.members
members_in None = []

-- a member of the group, where it is in use, is on the node
abbrev pub has_node : List EntryData → Group → List ℕ → Bool
has_node index g node = list_any (is_member_on node) (members_in (entry_of index g))

abbrev pub nodes_of : Option EntryData → List (List ℕ)
nodes_of (Some e) = map (λ (m : MemberData). m.node) e.members
nodes_of None = []

abbrev pub group_nodes : List EntryData → Group → List (List ℕ)
group_nodes index g = nodes_of (entry_of index g)

-- the nodes of the groups' members, ascending
unfoldable pub span : List EntryData → List Group → List (List ℕ)
span index applied = sorted_set text_order (flat_map (group_nodes index) applied)
