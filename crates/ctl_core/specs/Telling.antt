-- What the nodes are told at a revision (this project's own).
use Rattle.std.specs.Prelude.{ℕ, List, [], ◌∷◌, ◌++◌, cond, Some, None, if◌then◌else◌}
use Rattle.cl_types.specs.declared.stream.Rev.{Rev}
use Rattle.cl_types.specs.declared.stream.Stream.{Stream}
use Rattle.cl_types.specs.declared.stream.Stream.TheVariants.{Policies, Addresses, Applied}
use Rattle.cluster_types.specs.Cluster.{ClusterData}
use Rattle.ctl_core.specs.declared.outcome.StreamOf.{StreamOf}
use Rattle.ctl_core.specs.declared.telling.NodeNames.{NodeNames}
use Rattle.ctl_core.specs.declared.telling.Turn.{Turn}
use Rattle.node_streams.specs.declared.messages.NodeCuts.{NodeCuts}
use Rattle.node_streams.specs.declared.messages.NodeMessages.{NodeMessages}
use Rattle.node_streams.specs.Streams.{NodeStreams}
use Rattle.node_streams.specs.Telling.{cuts_of}
use Rattle.stream_messages.specs.Messages.{delta}

-- each live stream is told exactly what changes on it
abbrev pub messages_of : {P : Type 0} → ClusterData → ClusterData → Rev → NodeStreams P → NodeMessages
messages_of old new rev n = record {
  policies = if n.policies.live then Some (delta old new rev Policies n.node) else None;
  addresses = if n.addresses.live then Some (delta old new rev Addresses n.node) else None;
  applied = if n.applied.live then Some (delta old new rev Applied n.node) else None;
}

-- a stream of the node, by name
abbrev pub named_stream : List ℕ → Stream → StreamOf
named_stream name s = record { node = name; stream = s }

abbrev pub names_of : List ℕ → NodeNames
names_of name = record { policies = named_stream name Policies; addresses = named_stream name Addresses; applied = named_stream name Applied }

-- what a node is told, and the names of its streams
abbrev pub turn_of : {P : Type 0} → ClusterData → ClusterData → Rev → NodeStreams P → Turn
turn_of old new rev n = record { messages = messages_of old new rev n; names = names_of n.node }

-- ---- which streams were cut

-- those that were cut, in the order of streams
abbrev pub listed_cuts : NodeNames → NodeCuts → List StreamOf
listed_cuts names cuts = cond cuts.policies (names.policies ∷ []) [] ++ (cond cuts.addresses (names.addresses ∷ []) [] ++ cond cuts.applied (names.applied ∷ []) [])

-- the streams that were live and aren't any more, by node and in the order of streams
abbrev pub streams_cut : {P : Type 0} → List (NodeStreams P) → List (NodeStreams P) → List StreamOf
streams_cut [] news = []
streams_cut (old ∷ olds) [] = []
streams_cut (old ∷ olds) (new ∷ news) = listed_cuts (names_of old.node) (cuts_of old new) ++ streams_cut olds news
