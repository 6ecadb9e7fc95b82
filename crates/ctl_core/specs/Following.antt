-- How an index of groups follows a change of its cluster (this project's own).
use Rattle.std.specs.Prelude.{◌≡◌, List, Option, Some, None}
use Rattle.cluster_types.specs.declared.change.Change.{Change}
use Rattle.cluster_types.specs.declared.change.Change.TheVariants.{Put, Remove}
use Rattle.cluster_types.specs.declared.change.Object.{Object}
use Rattle.cluster_types.specs.declared.change.Object.TheVariants as object
use Rattle.cluster_types.specs.declared.change.ObjectKey.TheVariants as key
use Rattle.cluster_types.specs.Cluster.{ClusterData}
use Rattle.cluster_types.specs.Node.{NamespaceData}
use Rattle.cluster_types.specs.Pod.{PodData}
use Rattle.label_select.specs.Group.{Group}
use Rattle.group_index.specs.Changes.{before_namespace, before_pod}
use Rattle.group_index.specs.Index.{EntryData, StandsFor}
use Rattle.ctl_core.specs.Naming.{AreGroups}
use Rattle.ctl_core.specs.Uses.{uses_of}

abbrev pub pod_in : Option Object → Option PodData
pod_in (Some (object.Pod p)) = Some p
pod_in _ = None

abbrev pub namespace_in : Option Object → Option NamespaceData
namespace_in (Some (object.Namespace n)) = Some n
namespace_in _ = None

-- The index stands for what the cluster was before the change, whose key had this object before it. Members hang on pods
-- and namespaces alone.
abbrev pub StandsBefore : Change → Option Object → List EntryData → ClusterData → Type 0
StandsBefore (Put (object.Pod p)) old index c = StandsFor index (before_pod (pod_in old) (Some p) c)
StandsBefore (Remove (key.Pod name)) old index c = StandsFor index (before_pod (pod_in old) None c)
StandsBefore (Put (object.Namespace n)) old index c = StandsFor index (before_namespace (namespace_in old) n.name c)
StandsBefore (Remove (key.Namespace name)) old index c = StandsFor index (before_namespace (namespace_in old) name c)
StandsBefore _ old index c = StandsFor index c

-- the members are those at the cluster, and each group is in use as often as before
pub record IsMoved (c : ClusterData) (old new : List EntryData) : Type 0 where
  pub stands : StandsFor new c
  pub forms : AreGroups old → AreGroups new
  pub uses : (g : Group) → uses_of new g ≡ uses_of old g
