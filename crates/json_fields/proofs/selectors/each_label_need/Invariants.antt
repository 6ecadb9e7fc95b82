use Rattle.std.proofs.Common.{◌≡◌, ◌++◌, map, string_bytes}
use Rattle.std.specs.List.{filter_map}
use Rattle.serde_json.specs.View.{view}
use Rattle.json_fields.specs.Selectors.{label_need}
use Rattle.json_fields.proofs.selectors.each_label_need.Given as goal

-- the needs so far with those that are left are all of them
abbrev pub invariant-loop-key : goal.invariant-loop-key
invariant-loop-key l =
    l.needs.items ++ filter_map label_need (map (λ e. (string_bytes e.0, view e.1)) l.key-iterator) ≡ filter_map label_need (map (λ e. (string_bytes e.0, view e.1)) l.members.entries)
