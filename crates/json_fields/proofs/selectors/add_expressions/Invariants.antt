use Rattle.std.proofs.Common.{◌≡◌, ◌++◌, map, drop}
use Rattle.std.specs.List.{filter_map}
use Rattle.serde_json.specs.View.{view}
use Rattle.json_fields.specs.Selectors.{expression_need}
use Rattle.json_fields.proofs.selectors.add_expressions.Given as goal

-- the needs so far with those that are left are all of them
abbrev pub invariant-loop-item : goal.invariant-loop-item
invariant-loop-item l =
    l.needs.items ++ filter_map expression_need (map view (drop l.item-index l.items)) ≡ l.fn.needs.items ++ filter_map expression_need (map view l.items)
