use Rattle.std.proofs.Common.{◌≡◌, ◌++◌, map, drop}
use Rattle.std.specs.List.{filter_map}
use Rattle.serde_json.specs.View.{view}
use Rattle.policy_objects.specs.Peers.{peer_of}
use Rattle.policy_objects.proofs.peers.peers_among.Given as goal

-- the peers so far with those that are left are all of them
abbrev pub invariant-loop-item : goal.invariant-loop-item
invariant-loop-item l = l.peers.items ++ filter_map (peer_of l.own) (map view (drop l.item-index l.items)) ≡ filter_map (peer_of l.own) (map view l.items)
