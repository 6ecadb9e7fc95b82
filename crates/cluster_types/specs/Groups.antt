-- Who is in a group (Kubernetes NetworkPolicy v1: pod and namespace selectors).
use Rattle.std.specs.Prelude.{ℕ, List, [], Bool, ◌&&◌, codes, unwrap_or, option_map, filter, map}
use Rattle.std.specs.List.{flat_map}
use Rattle.std.specs.Ordering.{nat_cmp}
use Rattle.std.specs.Cmp.Lexicographic.{slice_cmp}
use Rattle.cl_types.specs.Ascending.{found}
use Rattle.cl_types.specs.declared.addr.Addr.{Addr}
use Rattle.label_select.specs.declared.labels.Label.{Label}
use Rattle.label_select.specs.Group.{Group, group_has}
use Rattle.label_select.specs.Selection.{put_label}
use Rattle.cluster_types.specs.Node.{NamespaceData}
use Rattle.cluster_types.specs.Pod.{PodData, counts}
use Rattle.cluster_types.specs.Cluster.{ClusterData}

-- the label that every namespace has, with its name
abbrev pub name_label : List ℕ
name_label = codes "kubernetes.io/metadata.name"

-- the labels of a namespace's object, where there is one
abbrev pub object_labels : List NamespaceData → List ℕ → List Label
object_labels namespaces name =
    unwrap_or (option_map (λ (n : NamespaceData). n.labels) (found (λ (n : NamespaceData). slice_cmp nat_cmp n.name name) namespaces)) []

-- the labels of a namespace: those of its object, with its name
abbrev pub ns_labels : ClusterData → List ℕ → List Label
ns_labels c name = put_label (object_labels c.namespaces name) name_label name

-- the group contains the pod: it counts, its namespace is in the scope, and the pod selector selects its labels
abbrev pub in_group : ClusterData → Group → PodData → Bool
in_group c g p = counts p && group_has g p.key.namespace (ns_labels c p.key.namespace) p.labels

-- the pods that the group contains
abbrev pub pods_in : ClusterData → Group → List PodData
pods_in c g = filter (in_group c g) c.pods

-- a member for each address of these pods
abbrev pub members_by : {M : Type 0} → (PodData → Addr → M) → ClusterData → Group → List M
members_by member c g = flat_map (λ (p : PodData). map (member p) p.addresses) (pods_in c g)
