-- What a controller's ports were sent stays a stream of the history (this project's own).
use Rattle.std.specs.Prelude.{◌≡◌, ℕ, ◌+◌, List, [], ◌∷◌, ◌++◌, length, Bool, Option, Some, None, Result}
use Rattle.cl_types.specs.declared.stream.Rev.{Rev}
use Rattle.cl_types.specs.declared.stream.Stream.{Stream}
use Rattle.cluster_types.specs.declared.change.Change.{Change}
use Rattle.cluster_types.specs.Cluster.{ClusterData}
use Rattle.stream_messages.specs.Laws.{last_cluster}
use Rattle.stream_messages.specs.Messages.{message_revision}
use Rattle.watch_streams.specs.declared.message.Msg.{Msg}
use Rattle.watch_streams.specs.Ports.{PortState, QueueData, queue_state}
use Rattle.watch_streams.specs.Stream.{IsStream}
use Rattle.ctl_core.specs.declared.outcome.StreamOf.{StreamOf}
use Rattle.ctl_core.specs.declared.outcome.RejoinFault.{RejoinFault}
use Rattle.ctl_core.specs.Controller.{ChangesOneStream, ControllerData, Rejoins}
use Rattle.ctl_core.specs.Line.{MakesRevision}
use Rattle.node_streams.specs.Streams.{IsCut, NodeStreams, StreamData, TakesFrom, stream_of, streams_at}

-- the history of clusters leads to the controller's revision
pub record Reaches {P : Type 0} (history : List ClusterData) (c : ControllerData P) : Type 0 where
  pub last : last_cluster history ≡ c.cluster
  pub count : c.revision.0 + 1 ≡ length history

-- what the port was sent is a stream of the history from a revision on
abbrev pub HoldsStream : {P : Type 0} → (P → PortState) → List ClusterData → Stream → List ℕ → ℕ → StreamData P → Type 0
HoldsStream state history s node from stream = IsStream history s node stream.live from (state stream.port).sent

-- what was a stream of the one history is one of the other, on each stream of each node
abbrev pub KeepsStreams : {P : Type 0} → (P → PortState) → List ClusterData → List ClusterData → List (NodeStreams P) → List (NodeStreams P) → Type 0
KeepsStreams state before after olds news =
    (node : List ℕ) (s : Stream) (from : ℕ) (old new : NodeStreams _) → streams_at node olds ≡ Some old → streams_at node news ≡ Some new
    → HoldsStream state before s node from (stream_of s old) → HoldsStream state after s node from (stream_of s new)

-- a line that makes a revision adds its cluster to the history
abbrev pub LinesKeepStreams : {P : Type 0} → (P → PortState) → (P → P → Type 0) → Type 0
LinesKeepStreams state Same =
    (changes : List Change) (rev : Rev) (cut : List StreamOf) (old new : ControllerData _) (history : List ClusterData) → Reaches history old
    → MakesRevision state Same changes rev cut old new → KeepsStreams state history (history ++ new.cluster ∷ []) old.nodes new.nodes

-- a stream that is cut is one that isn't live
abbrev pub CutsKeepStreams : {P : Type 0} → (P → PortState) → Type 0
CutsKeepStreams state =
    (node : List ℕ) (s : Stream) (was_live : Bool) (old new : ControllerData _) (history : List ClusterData)
    → ChangesOneStream node s (IsCut was_live) old new → KeepsStreams state history history old.nodes new.nodes

-- a stream that begins again has a snapshot of the last cluster
abbrev pub RejoinsKeepStreams : {P : Type 0} → (P → PortState) → (P → P → Type 0) → Type 0
RejoinsKeepStreams state Same =
    (node : List ℕ) (s : Stream) (result : Result Rev RejoinFault) (old new : ControllerData _) (history : List ClusterData) → Reaches history old
    → Rejoins state Same node s result old new → KeepsStreams state history history old.nodes new.nodes

-- the revision from which the rest of a stream leads on
abbrev pub from_then : ℕ → Option Msg → ℕ
from_then from None = from
from_then from (Some m) = (message_revision m).0

-- without its oldest message a stream leads on from that message's revision
abbrev pub TakesKeepStreams : Type 0
TakesKeepStreams =
    (node : List ℕ) (s : Stream) (from : ℕ) (answer : Option Msg) (old new : StreamData QueueData) (history : List ClusterData) → TakesFrom answer old new
    → HoldsStream queue_state history s node from old → HoldsStream queue_state history s node (from_then from answer) new
