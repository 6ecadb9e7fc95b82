use Rattle.std.proofs.Common.{◌≡◌, [], map, string_bytes}
use Rattle.serde_json.specs.View.{view}
use Rattle.json_fields.specs.Names.{labels_from}
use Rattle.json_fields.proofs.metadata.labels_from.Given as goal

-- the labels so far with those that are left are all of them
abbrev pub invariant-loop-key : goal.invariant-loop-key
invariant-loop-key l =
    labels_from (map (λ e. (string_bytes e.0, view e.1)) l.key-iterator) l.labels ≡ labels_from (map (λ e. (string_bytes e.0, view e.1)) l.members.entries) []
