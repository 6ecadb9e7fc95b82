-- What a controller tells a stream of a node (this project's own).
use Rattle.std.specs.Prelude.{ℕ, List}
use Rattle.cl_types.specs.declared.stream.Rev.{Rev}
use Rattle.cl_types.specs.declared.stream.Stream.{Stream}
use Rattle.cluster_types.specs.Cluster.{ClusterData}
use Rattle.watch_streams.specs.declared.message.Msg.{Msg}
use Rattle.watch_streams.specs.declared.message.Msg.TheVariants.{Delta, Snapshot}
use Rattle.watch_streams.specs.Difference.{difference}
use Rattle.watch_streams.specs.Projection.{projection}

-- exactly what changes on the stream from one cluster to the next, which is of this revision
abbrev pub delta : ClusterData → ClusterData → Rev → Stream → List ℕ → Msg
delta old new rev s node = Delta rev (difference (projection old s node) (projection new s node))

-- all that belongs on the stream at a cluster, which is of this revision
abbrev pub snapshot : ClusterData → Rev → Stream → List ℕ → Msg
snapshot c rev s node = Snapshot rev (projection c s node)

-- the revision that a message is of
abbrev pub message_revision : Msg → Rev
message_revision (Delta rev changes) = rev
message_revision (Snapshot rev objects) = rev
