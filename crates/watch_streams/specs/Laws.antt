-- What holds of all clusters (this project's own).
use Rattle.std.specs.Prelude.{◌≡◌, ◌≢◌, ℕ, ◌≤◌, List, [], Bool, true, map}
use Rattle.std.specs.List.{AllByRecursion}
use Rattle.cl_types.specs.declared.question.Question.{Question}
use Rattle.cl_types.specs.declared.stream.Stream.{Stream}
use Rattle.cl_types.specs.declared.stream.Stream.TheVariants.{Policies, Addresses, Applied}
use Rattle.cl_types.specs.Ascending.{Ascends}
use Rattle.label_select.specs.Group.{IsGroup}
use Rattle.cluster_types.specs.Evaluation.{side}
use Rattle.cluster_types.specs.Cluster.{IsCluster}
use Rattle.cluster_types.specs.Cluster.{ClusterData}
use Rattle.cluster_types.specs.Policy.{PolicyData}
use Rattle.watch_streams.specs.declared.message.Msg.{Msg}
use Rattle.watch_streams.specs.declared.message.StreamObject.{StreamObject}
use Rattle.watch_streams.specs.declared.message.StreamObject.TheVariants as object
use Rattle.watch_streams.specs.Difference.{belongs, difference, after_changes, of_snapshot}
use Rattle.watch_streams.specs.HeldEvaluation.{HeldMaps, held_side}
use Rattle.watch_streams.specs.Names.{AreDistinct, AscendByName, changed_name, name_of}
use Rattle.watch_streams.specs.Net.{IsNetPolicy, member_order}
use Rattle.watch_streams.specs.Projection.{net_policy, policies_on, projection}
use Rattle.watch_streams.specs.Stream.{after_messages, map_at, IsStream}

-- ---- the law of one revision

-- what an agent holds whose three streams stand at one cluster
abbrev pub held_of : ClusterData → List ℕ → HeldMaps
held_of c node = record { policies = projection c Policies node; addresses = projection c Addresses node; applied = projection c Applied node }

-- its verdict is the policies' own
abbrev pub OneRevisionIsThePoliciesVerdict : Type 0
OneRevisionIsThePoliciesVerdict = (c : ClusterData) (node : List ℕ) (q : Question) → IsCluster c → held_side (held_of c node) q ≡ side c node q

-- ---- the law of one message

abbrev pub HasAscendingMembers : StreamObject → Type 0
HasAscendingMembers (object.Policy p) = Unit {0}
HasAscendingMembers (object.Egress e) = Unit {0}
HasAscendingMembers (object.Group g members) = Ascends (λ m. m) member_order members

abbrev pub HasGroupForm : StreamObject → Type 0
HasGroupForm (object.Policy p) = Unit {0}
HasGroupForm (object.Egress e) = Unit {0}
HasGroupForm (object.Group g members) = IsGroup g

-- a map of a stream: one object a name, each of which belongs there, and members in order
pub record IsMap (s : Stream) (objects : List StreamObject) : Type 0 where
  pub ascends : AscendByName objects
  pub belong : AllByRecursion (λ o. belongs s o ≡ true) objects
  pub members : AllByRecursion HasAscendingMembers objects
  pub groups : AllByRecursion HasGroupForm objects

-- the changes from one map to another lead from the one to the other
abbrev pub DifferencesLeadToTheNewMap : Type 0
DifferencesLeadToTheNewMap = (s : Stream) (old new : List StreamObject) → IsMap s old → IsMap s new → after_changes s (difference old new) old ≡ new

-- a map taken as a snapshot is that map
abbrev pub SnapshotsAreTheMap : Type 0
SnapshotsAreTheMap = (s : Stream) (objects : List StreamObject) → IsMap s objects → of_snapshot s objects ≡ objects

-- no name comes twice in the changes from one map to another, nor in a map
abbrev pub DifferencesNameOnce : Type 0
DifferencesNameOnce = (old new : List StreamObject) → AscendByName old → AscendByName new → AreDistinct (map changed_name (difference old new))

abbrev pub MapsNameOnce : Type 0
MapsNameOnce = (objects : List StreamObject) → AscendByName objects → AreDistinct (map name_of objects)

-- what belongs on a stream is a map of it
abbrev pub ProjectionsAreMaps : Type 0
ProjectionsAreMaps = (c : ClusterData) (s : Stream) (node : List ℕ) → IsCluster c → IsMap s (projection c s node)

-- ---- the law of the policies on a stream

-- with groups in place of selectors, a policy of a cluster that applies to some group has what its type keeps
abbrev pub AppliedPoliciesAreWhole : Type 0
AppliedPoliciesAreWhole = (c : ClusterData) → IsCluster c → AllByRecursion (λ (p : PolicyData). p.applied ≢ [] → IsNetPolicy (net_policy p)) c.policies

-- so has each policy that concerns a node
abbrev pub PoliciesOnStreamsAreWhole : Type 0
PoliciesOnStreamsAreWhole = (c : ClusterData) (node : List ℕ) → IsCluster c → AllByRecursion (λ (p : PolicyData). IsNetPolicy (net_policy p)) (policies_on c node)

-- ---- the law of a stream

-- read from the map at one revision, the messages of a stream lead to the map at a revision not before
pub record LeadsOn (history : List ClusterData) (s : Stream) (node : List ℕ) (from to : ℕ) (messages : List Msg) : Type 0 where
  pub leads : after_messages s messages (map_at history s node from) ≡ map_at history s node to
  pub later : from ≤ to

abbrev pub StreamsLeadOn : Type 0
StreamsLeadOn =
    (history : List ClusterData) (s : Stream) (node : List ℕ) (live : Bool) (from : ℕ) (messages : List Msg) →
    AllByRecursion IsCluster history → (stream : IsStream history s node live from messages) → LeadsOn history s node from stream.to messages
