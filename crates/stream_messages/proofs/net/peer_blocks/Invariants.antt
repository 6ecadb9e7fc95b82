use Rattle.std.proofs.Common.{◌≡◌, take}
use Rattle.std.specs.List.{flat_map}
use Rattle.watch_streams.specs.Projection.{peer_blocks}
use Rattle.stream_messages.proofs.net.peer_blocks.Given as goal

-- those of the peers so far
abbrev pub invariant-loop-peer : goal.invariant-loop-peer
invariant-loop-peer l = l.blocks.items ≡ flat_map peer_blocks (take l.peer-index l.peers)
