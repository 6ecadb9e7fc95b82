-- An index that stands for a cluster stands, once a change is made, for what the cluster was (this project's own).
use Rattle.std.specs.Prelude.{◌≡◌, ℕ, List, Some, None, Ok}
use Rattle.cl_types.specs.declared.keys.PodKey.{PodKey}
use Rattle.cl_types.specs.Ascending.{found}
use Rattle.cluster_types.specs.declared.change.Change.TheVariants.{Put, Remove}
use Rattle.cluster_types.specs.declared.change.Object.TheVariants as object
use Rattle.cluster_types.specs.declared.change.ObjectKey.TheVariants as key
use Rattle.cluster_types.specs.Cluster.{ClusterData, IsCluster}
use Rattle.cluster_types.specs.Node.{NamespaceData}
use Rattle.cluster_types.specs.Pod.{PodData}
use Rattle.cluster_objects.specs.Apply.{Outcome}
use Rattle.cluster_objects.specs.Changes.{apply}
use Rattle.group_index.specs.Changes.{at_namespace, at_pod, before_namespace, before_pod}
use Rattle.group_index.specs.Index.{EntryData, StandsFor}

-- the old pod is the one at the new one's key
abbrev pub StandsBeforePodPut : Type 0
StandsBeforePodPut =
    (index : List EntryData) (c : ClusterData) (p : PodData) (o : Outcome) → IsCluster c → apply c (Put (object.Pod p)) ≡ Ok o
    → StandsFor index c → StandsFor index (before_pod (found (at_pod p.key) c.pods) (Some p) o.cluster)

-- the old pod is the one that was removed
abbrev pub StandsBeforePodRemoved : Type 0
StandsBeforePodRemoved =
    (index : List EntryData) (c : ClusterData) (name : PodKey) (p : PodData) (o : Outcome) → IsCluster c → apply c (Remove (key.Pod name)) ≡ Ok o
    → found (at_pod name) c.pods ≡ Some p → StandsFor index c → StandsFor index (before_pod (Some p) None o.cluster)

-- the old namespace is the one at the name
abbrev pub StandsBeforeNamespacePut : Type 0
StandsBeforeNamespacePut =
    (index : List EntryData) (c : ClusterData) (n : NamespaceData) (o : Outcome) → IsCluster c → apply c (Put (object.Namespace n)) ≡ Ok o
    → StandsFor index c → StandsFor index (before_namespace (found (at_namespace n.name) c.namespaces) n.name o.cluster)

abbrev pub StandsBeforeNamespaceRemoved : Type 0
StandsBeforeNamespaceRemoved =
    (index : List EntryData) (c : ClusterData) (name : List ℕ) (o : Outcome) → IsCluster c → apply c (Remove (key.Namespace name)) ≡ Ok o
    → StandsFor index c → StandsFor index (before_namespace (found (at_namespace name) c.namespaces) name o.cluster)
