use Rattle.std.proofs.Common.{◌≡◌, ◌++◌, map, drop}
use Rattle.std.specs.List.{filter_map}
use Rattle.serde_json.specs.View.{view}
use Rattle.policy_objects.specs.Applied.{applied_of}
use Rattle.policy_objects.proofs.applied.applied_groups.Given as goal

-- the groups so far with those that are left are all of them
abbrev pub invariant-loop-item : goal.invariant-loop-item
invariant-loop-item l = l.groups.items ++ filter_map (applied_of l.own) (map view (drop l.item-index l.items)) ≡ filter_map (applied_of l.own) (map view l.items)
