use Rattle.std.proofs.Common.{◌≡◌, ◌++◌, map, drop}
use Rattle.std.specs.List.{filter_map}
use Rattle.serde_json.specs.View.{view}
use Rattle.policy_objects.specs.Peers.{reference_of}
use Rattle.policy_objects.proofs.peers.references_of.Given as goal

-- the references so far with those that are left are all of them
abbrev pub invariant-loop-item : goal.invariant-loop-item
invariant-loop-item l = l.references.items ++ filter_map reference_of (map view (drop l.item-index l.items)) ≡ filter_map reference_of (map view l.items)
