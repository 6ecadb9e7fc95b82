-- What holds of the messages on a stream as the history grows (this project's own).
use Rattle.std.specs.Prelude.{◌≡◌, ℕ, ◌+◌, ◌-◌, List, [], ◌∷◌, ◌++◌, length, get_or, Bool, true, false}
use Rattle.cl_types.specs.declared.stream.Rev.{Rev}
use Rattle.cl_types.specs.declared.stream.Stream.{Stream}
use Rattle.cluster_types.specs.Cluster.{ClusterData, HasNodesAlone, no_objects}
use Rattle.watch_streams.specs.declared.message.Msg.{Msg}
use Rattle.watch_streams.specs.Projection.{projection}
use Rattle.watch_streams.specs.Stream.{IsStream}
use Rattle.stream_messages.specs.Messages.{delta, snapshot, message_revision}

-- the cluster of the last revision
abbrev pub last_cluster : List ClusterData → ClusterData
last_cluster history = get_or history (length history - 1) no_objects

-- ---- how a stream begins

-- at the first revision no messages are a stream
abbrev pub NothingIsAStreamAtFirst : Type 0
NothingIsAStreamAtFirst = (c : ClusterData) (s : Stream) (node : List ℕ) (live : Bool) → IsStream (c ∷ []) s node live 0 []

-- of the nodes alone nothing belongs on a stream
abbrev pub NodesAloneHaveEmptyStreams : Type 0
NodesAloneHaveEmptyStreams = (c : ClusterData) (s : Stream) (node : List ℕ) → HasNodesAlone c → projection c s node ≡ []

-- ---- one more cluster

-- a live stream goes on with the delta of the next revision
abbrev pub DeltasGoOn : Type 0
DeltasGoOn =
    (history : List ClusterData) (new : ClusterData) (rev : Rev) (s : Stream) (node : List ℕ) (from : ℕ) (messages : List Msg) →
    rev.0 ≡ length history → IsStream history s node true from messages →
    IsStream (history ++ new ∷ []) s node true from (messages ++ delta (last_cluster history) new rev s node ∷ [])

-- without a message a stream stays one that isn't live
abbrev pub CutStreamsStay : Type 0
CutStreamsStay =
    (history : List ClusterData) (new : ClusterData) (s : Stream) (node : List ℕ) (live : Bool) (from : ℕ) (messages : List Msg) →
    IsStream history s node live from messages → IsStream (history ++ new ∷ []) s node false from messages

-- a snapshot of the last cluster makes a stream live
abbrev pub SnapshotsBeginAgain : Type 0
SnapshotsBeginAgain =
    (history : List ClusterData) (rev : Rev) (s : Stream) (node : List ℕ) (live : Bool) (from : ℕ) (messages : List Msg) →
    rev.0 + 1 ≡ length history → IsStream history s node live from messages →
    IsStream history s node true from (messages ++ snapshot (last_cluster history) rev s node ∷ [])

-- ---- parts of a stream

-- behind the first message the others are a stream from its revision on
abbrev pub TheRestIsAStream : Type 0
TheRestIsAStream =
    (history : List ClusterData) (s : Stream) (node : List ℕ) (live : Bool) (from : ℕ) (m : Msg) (messages : List Msg) →
    IsStream history s node live from (m ∷ messages) → IsStream history s node live (message_revision m).0 messages

-- without its last messages a stream is one that isn't live
abbrev pub PrefixesAreStreams : Type 0
PrefixesAreStreams =
    (history : List ClusterData) (s : Stream) (node : List ℕ) (live : Bool) (from : ℕ) (messages more : List Msg) →
    IsStream history s node live from (messages ++ more) → IsStream history s node false from messages
