use Rattle.std.proofs.Common.{◌≡◌, ◌++◌, map, drop}
use Rattle.std.specs.List.{filter_map}
use Rattle.serde_json.specs.View.{view}
use Rattle.policy_parts.specs.Ports.{service_of}
use Rattle.policy_parts.proofs.ports.services_among.Given as goal

-- the ports so far with those that are left are all of them
abbrev pub invariant-loop-item : goal.invariant-loop-item
invariant-loop-item l = l.services.items ++ filter_map service_of (map view (drop l.item-index l.items)) ≡ filter_map service_of (map view l.items)
