-- A controller: the cluster, its groups in use, the revision, and the streams of the nodes (this project's own).
use Rattle.std.specs.Prelude.{◌≡◌, ℕ, List, [], Bool, true, false, map, Option, Some, option_map, Result, Ok, Err}
use Rattle.cl_types.specs.declared.stream.Rev.{Rev}
use Rattle.cl_types.specs.declared.stream.Stream.{Stream}
use Rattle.cl_types.specs.Ascending.{Ascends}
use Rattle.cl_types.specs.Text.{text_order}
use Rattle.cluster_types.specs.Cluster.{ClusterData, IsCluster}
use Rattle.cluster_types.specs.Node.{NodeData}
use Rattle.group_index.specs.Index.{EntryData}
use Rattle.node_objects.specs.Sides.{IsSide}
use Rattle.ctl_core.specs.Uses.{IsCounted}
use Rattle.watch_streams.specs.Ports.{PortState}
use Rattle.node_streams.specs.declared.messages.Trio.{Trio}
use Rattle.ctl_core.specs.declared.outcome.RejoinFault.{RejoinFault}
use Rattle.ctl_core.specs.declared.outcome.RejoinFault.TheVariants.{NotCut, Full, NoMemory}
use Rattle.stream_messages.specs.Messages.{snapshot}
use Rattle.node_streams.specs.Streams.{NodeStreams, StreamData, ChangesOne, IsBegunAgain, IsFull, first_streams, stream_of, streams_at}

pub record ControllerData (P : Type 0) : Type 0 where
  pub cluster : ClusterData
  pub groups : List EntryData
  pub revision : Rev
  pub spent : Bool
  pub nodes : List (NodeStreams P)

abbrev pub IsUnspent : {P : Type 0} → ControllerData P → Type 0
IsUnspent c = c.spent ≡ false

-- The nodes are fixed, and each has its streams. Until the controller is spent the groups in use have their members at
-- the cluster, and those that policies and counting Egresses name are in use.
pub record IsController {P : Type 0} (c : ControllerData P) : Type 0 where
  pub cluster : IsCluster c.cluster
  pub fixed : c.cluster.fixed ≡ true
  pub nodes : map (λ (n : NodeStreams P). n.node) c.nodes ≡ map (λ (n : NodeData). n.name) c.cluster.nodes
  pub ascend : Ascends (λ (n : NodeStreams P). n.node) text_order c.nodes
  pub groups : c.spent ≡ false → IsSide c.cluster c.groups

-- A controller has its cluster twice, each time with the groups in use. Until it is spent the two are the same, and each
-- counts how often a group is named.
pub record KeepsSides {P : Type 0} (c : ControllerData P) (other : ClusterData) (others : List EntryData) : Type 0 where
  pub controller : IsController c
  pub same : c.spent ≡ false → other ≡ c.cluster
  pub present : c.spent ≡ false → IsCounted c.cluster c.groups
  pub next : c.spent ≡ false → IsCounted other others

-- the nodes as they stand, at revision 0, with no group in use
pub record IsNew {P : Type 0} (given : ClusterData) (ports : List (Trio P)) (c : ControllerData P) : Type 0 where
  pub cluster : c.cluster ≡ record given { fixed = true }
  pub groups : c.groups ≡ []
  pub revision : c.revision.0 ≡ 0
  pub spent : c.spent ≡ false
  pub nodes : c.nodes ≡ first_streams given.nodes ports

-- the one stream of the node changed so, and nothing else
pub record ChangesOneStream {P : Type 0} (node : List ℕ) (s : Stream) (How : StreamData P → StreamData P → Type 0) (old new : ControllerData P) : Type 0 where
  pub streams : ChangesOne node s How old.nodes new.nodes
  pub rest : new ≡ record old { nodes = new.nodes }

-- ---- a stream begins again

-- whether a stream of a listed node is live
abbrev pub live_at : {P : Type 0} → List ℕ → Stream → ControllerData P → Option Bool
live_at node s c = option_map (λ n. (stream_of s n).live) (streams_at node c.nodes)

-- The cut stream is live again with a snapshot of the last revision, or it isn't, and why; a live stream is left as it is,
-- and so is every one where memory is wanting.
abbrev pub Rejoins : {P : Type 0} → (P → PortState) → (P → P → Type 0) → List ℕ → Stream → Result Rev RejoinFault → ControllerData P → ControllerData P → Type 0
Rejoins state same node s (Ok rev) old new =
    (rev ≡ old.revision) × ChangesOneStream node s (IsBegunAgain state same (snapshot old.cluster old.revision s node)) old new
Rejoins state same node s (Err NotCut) old new = (live_at node s old ≡ Some true) × (new ≡ old)
Rejoins state same node s (Err Full) old new = ChangesOneStream node s (IsFull state same) old new
Rejoins state same node s (Err NoMemory) old new = (live_at node s old ≡ Some false) × (new ≡ old)
