use Rattle.std.proofs.Common.{◌≡◌, ◌++◌, map, drop}
use Rattle.serde_json.specs.View.{view}
use Rattle.json_fields.proofs.reading.elements_value.Given as goal

-- what is read so far with what is left is all of it
abbrev pub invariant-loop-item : goal.invariant-loop-item
invariant-loop-item g l =
    l.read.items ++ map (g.R.Reading.meaning l.reading) (map view (drop l.item-index l.items)) ≡ map (g.R.Reading.meaning l.reading) (map view l.items)
