-- The names that changes of a cluster touch (this project's own).
use Rattle.std.specs.Prelude.{◌≡◌, ℕ, List, [], ◌++◌, map, Option, Some, None}
use Rattle.std.specs.List.{AllByRecursion}
use Rattle.std.specs.Option.{option_map_or}
use Rattle.cl_types.specs.declared.stream.Stream.{Stream}
use Rattle.label_select.specs.Group.{Group}
use Rattle.cluster_types.specs.declared.change.Change.{Change}
use Rattle.cluster_types.specs.declared.change.Change.TheVariants.{Put, Remove}
use Rattle.cluster_types.specs.declared.change.Object.{Object}
use Rattle.cluster_types.specs.declared.change.Object.TheVariants as object
use Rattle.cluster_types.specs.declared.change.ObjectKey.TheVariants as key
use Rattle.cluster_types.specs.Cluster.{ClusterData}
use Rattle.group_index.specs.declared.change.GroupChange.{GroupChange}
use Rattle.group_index.specs.Changes.{at_cluster, before_namespace, before_pod, changes_between}
use Rattle.group_index.specs.Index.{EntryData}
use Rattle.watch_streams.specs.declared.message.StreamName.{StreamName}
use Rattle.watch_streams.specs.declared.message.StreamChange.{StreamChange}
use Rattle.watch_streams.specs.Difference.{changed}
use Rattle.node_objects.specs.declared.touched.TouchedName.{TouchedName}
use Rattle.node_objects.specs.Touched.{IsTouched}
use Rattle.touched_names.specs.Elsewhere.{SameElsewhere, names_by_text}
use Rattle.touched_names.specs.Standing.{IsName, standing}
use Rattle.touched_names.specs.Touching.{MovedGroupsTouch, NothingElseTouches, PutEgressesTouch, PutPoliciesTouch, RemovedEgressesTouch, RemovedPoliciesTouch, egress_names, moved_names, policy_names}
use Rattle.ctl_core.specs.Following.{namespace_in, pod_in}
use Rattle.ctl_core.specs.Spread.{spread_groups}
use Rattle.ctl_core.specs.Uses.{new_object}

-- ---- one change

-- the names that an object brings
abbrev pub object_names : Object → List StreamName
object_names (object.Policy p) = policy_names p
object_names (object.Egress e) = egress_names e
object_names _ = []

abbrev pub names_if_any : Option Object → List StreamName
names_if_any o = option_map_or object_names o []

-- the groups that changed
abbrev pub changed_groups : List GroupChange → List Group
changed_groups changes = map (λ (x : GroupChange). x.group) changes

-- what touches names where groups change so to the members that the index has
abbrev pub names_of_moved : List GroupChange → List EntryData → ClusterData → List StreamName
names_of_moved changes index c = moved_names (changed_groups changes) (spread_groups index changes) c

-- The names that a change touches which leads to the cluster, and at whose key this object stood before it. Pods and
-- namespaces touch those of the groups in use whose members they change.
abbrev pub touched_by : Change → Option Object → List EntryData → ClusterData → List StreamName
touched_by (Put (object.Pod p)) old index c = names_of_moved (changes_between (before_pod (pod_in old) (Some p) c) c index) (at_cluster c index) c
touched_by (Remove (key.Pod name)) old index c = names_of_moved (changes_between (before_pod (pod_in old) None c) c index) (at_cluster c index) c
touched_by (Put (object.Namespace n)) old index c = names_of_moved (changes_between (before_namespace (namespace_in old) n.name c) c index) (at_cluster c index) c
touched_by (Remove (key.Namespace name)) old index c = names_of_moved (changes_between (before_namespace (namespace_in old) name c) c index) (at_cluster c index) c
touched_by change old index c = names_if_any (new_object change) ++ names_if_any old

-- what changes of each kind touch
pub record ChangesTouch : Type 0 where
  pub moved : MovedGroupsTouch
  pub put_policies : PutPoliciesTouch
  pub removed_policies : RemovedPoliciesTouch
  pub put_egresses : PutEgressesTouch
  pub removed_egresses : RemovedEgressesTouch
  pub tiers : NothingElseTouches

-- ---- many changes

-- Whatever cluster one begins with: where the names so far tell all that has changed since, those by now do so, too.
abbrev pub TouchesOn : List StreamName → List StreamName → ClusterData → ClusterData → Type 0
TouchesOn old new c d = (start : ClusterData) → SameElsewhere old start c → SameElsewhere new start d

-- by their texts the names that tell all that differs between the clusters
pub record AreTouched (sorted : List StreamName) (c d : ClusterData) : Type 0 where
  pub touched : List StreamName
  pub sorted_is : sorted ≡ names_by_text touched
  pub are_names : AllByRecursion IsName touched
  pub elsewhere : SameElsewhere touched c d

-- ---- what is told of them

-- what changes on a stream of a node under the name
abbrev pub changed_under : ClusterData → ClusterData → Stream → List ℕ → TouchedName → List StreamChange
changed_under c d s node t = changed (standing c s node t.name) (standing d s node t.name)

-- The names tell all that differs between the clusters, and each has what is in common for all nodes.
pub record AreToldOf (c : ClusterData) (old : List EntryData) (d : ClusterData) (new : List EntryData) (touched : List TouchedName) : Type 0 where
  pub names : AreTouched (map (λ (t : TouchedName). t.name) touched) c d
  pub each : AllByRecursion (IsTouched c old d new) touched
