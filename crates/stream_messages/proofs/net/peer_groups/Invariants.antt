use Rattle.std.proofs.Common.{◌≡◌, take}
use Rattle.std.specs.List.{flat_map}
use Rattle.watch_streams.specs.Projection.{peer_groups}
use Rattle.stream_messages.proofs.net.peer_groups.Given as goal

-- those of the peers so far
abbrev pub invariant-loop-peer : goal.invariant-loop-peer
invariant-loop-peer l = l.groups.items ≡ flat_map peer_groups (take l.peer-index l.peers)
