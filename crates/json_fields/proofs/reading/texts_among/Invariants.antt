use Rattle.std.proofs.Common.{◌≡◌, ◌++◌, map, drop}
use Rattle.std.specs.List.{filter_map}
use Rattle.serde_json.specs.Find.{as_str}
use Rattle.serde_json.specs.View.{view}
use Rattle.json_fields.proofs.reading.texts_among.Given as goal

-- the texts so far with those that are left are all of them
abbrev pub invariant-loop-item : goal.invariant-loop-item
invariant-loop-item l =
    l.texts.items ++ filter_map as_str (map view (drop l.item-index l.items)) ≡ filter_map as_str (map view l.items)
