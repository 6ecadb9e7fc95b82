use Rattle.std.proofs.Common.{◌≡◌, ◌++◌, map, drop}
use Rattle.std.specs.List.{filter_map}
use Rattle.serde_json.specs.View.{view}
use Rattle.policy_parts.specs.Directions.{type_of}
use Rattle.policy_parts.proofs.directions.types_among.Given as goal

-- the types so far with those that are left are all of them
abbrev pub invariant-loop-item : goal.invariant-loop-item
invariant-loop-item l = l.types.items ++ filter_map type_of (map view (drop l.item-index l.items)) ≡ filter_map type_of (map view l.items)
