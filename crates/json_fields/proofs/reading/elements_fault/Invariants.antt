use Rattle.std.proofs.Common.{◌≡◌, map, drop}
use Rattle.serde_json.specs.View.{view}
use Rattle.json_fields.specs.Faults.{earlier, least, each_from}
use Rattle.json_fields.proofs.reading.elements_fault.Given as goal

-- the fault so far and those of the elements that are left give that of all
abbrev pub invariant-loop-index : goal.invariant-loop-index
invariant-loop-index g l =
    earlier l.worst (least (each_from (g.R.Reading.faults l.reading) l.index (map view (drop l.index l.items)))) ≡ least (each_from (g.R.Reading.faults l.reading) 0 (map view l.items))
