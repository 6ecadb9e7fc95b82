-- What changes in the groups in use from one cluster to another (this project's own).
use Rattle.std.specs.Prelude.{ℕ, List, [], ◌∷◌, Bool, not, filter, map, Option, Some, None}
use Rattle.std.specs.List.{flat_map, list_any}
use Rattle.std.specs.declared.cmp.Ordering.{Ordering}
use Rattle.cl_types.specs.declared.keys.PodKey.{PodKey}
use Rattle.cl_types.specs.Ascending.{put, without}
use Rattle.cl_types.specs.Equality.{is_same}
use Rattle.cl_types.specs.RuleOrder.{pod_order}
use Rattle.cl_types.specs.Text.{text_order}
use Rattle.label_select.specs.Group.{Group}
use Rattle.cluster_types.specs.Cluster.{ClusterData}
use Rattle.cluster_types.specs.Node.{NamespaceData}
use Rattle.cluster_types.specs.Pod.{PodData}
use Rattle.group_index.specs.declared.member.Member as member
use Rattle.group_index.specs.declared.change.GroupChange.{GroupChange}
use Rattle.group_index.specs.Index.{EntryData}
use Rattle.group_index.specs.Members.{MemberData, members_of}

-- ---- the cluster before a change

abbrev pub at_pod : PodKey → PodData → Ordering
at_pod key p = pod_order p.key key

abbrev pub at_namespace : List ℕ → NamespaceData → Ordering
at_namespace name n = text_order n.name name

-- the pods with the new one put back to the old one
abbrev pub pods_before : Option PodData → Option PodData → List PodData → List PodData
pods_before (Some old) new pods = put (at_pod old.key) old pods
pods_before None (Some new) pods = without (at_pod new.key) pods
pods_before None None pods = pods

-- the cluster in which the pod was the old one
abbrev pub before_pod : Option PodData → Option PodData → ClusterData → ClusterData
before_pod old new c = record c { pods = pods_before old new c.pods }

-- the namespaces with the one of the name put back to the old one
abbrev pub namespaces_before : Option NamespaceData → List ℕ → List NamespaceData → List NamespaceData
namespaces_before (Some old) name namespaces = put (at_namespace name) old namespaces
namespaces_before None name namespaces = without (at_namespace name) namespaces

-- the cluster in which the namespace was the old one
abbrev pub before_namespace : Option NamespaceData → List ℕ → ClusterData → ClusterData
before_namespace old name c = record c { namespaces = namespaces_before old name c.namespaces }

-- ---- what changes

-- the very member is among them
abbrev pub has_member : List MemberData → MemberData → Bool
has_member members m = list_any (is_same member.the_code m) members

-- the members that the others lack
abbrev pub members_without : List MemberData → List MemberData → List MemberData
members_without members others = filter (λ m. not (has_member others m)) members

abbrev pub change_if_any : Group → List MemberData → List MemberData → List GroupChange
change_if_any g [] [] = []
change_if_any g added removed = record { group = g; added = added; removed = removed } ∷ []

-- the change of a group, where its members differ
unfoldable pub group_change : Group → List MemberData → List MemberData → List GroupChange
group_change g old new = change_if_any g (members_without new old) (members_without old new)

-- the changes of all groups in use, ascending by their texts
unfoldable pub changes_between : ClusterData → ClusterData → List EntryData → List GroupChange
changes_between before after index = flat_map (λ (e : EntryData). group_change e.group (members_of before e.group) (members_of after e.group)) index

abbrev pub entry_at : ClusterData → EntryData → EntryData
entry_at c e = record { group = e.group; uses = e.uses; members = members_of c e.group }

-- the index with the members at the cluster
unfoldable pub at_cluster : ClusterData → List EntryData → List EntryData
at_cluster c index = map (entry_at c) index

-- the change of a group in use from its present members to those at the cluster
abbrev pub change_at : ClusterData → EntryData → List GroupChange
change_at c e = group_change e.group e.members (members_of c e.group)
