use Rattle.std.proofs.Common.{◌≡◌, map, string_bytes}
use Rattle.serde_json.specs.View.{view}
use Rattle.json_fields.specs.Faults.{earlier, least}
use Rattle.json_fields.specs.Names.{each_label_faults}
use Rattle.json_fields.proofs.metadata.each_label_fault.Given as goal

-- the fault so far and those of the members that are left give that of all
abbrev pub invariant-loop-key : goal.invariant-loop-key
invariant-loop-key l =
    earlier l.worst (least (each_label_faults (map (λ e. (string_bytes e.0, view e.1)) l.key-iterator)))
    ≡ least (each_label_faults (map (λ e. (string_bytes e.0, view e.1)) l.members.entries))
