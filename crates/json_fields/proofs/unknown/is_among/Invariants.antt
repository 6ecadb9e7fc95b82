use Rattle.std.proofs.Common.{◌≡◌, map, drop, string_bytes}
use Rattle.std.specs.List.{list_any}
use Rattle.cl_types.specs.Text.{text_eq}
use Rattle.json_fields.proofs.unknown.is_among.Given as goal

-- what the names that are left decide is what all of them decide
abbrev pub invariant-loop-name : goal.invariant-loop-name
invariant-loop-name l = list_any (text_eq (string_bytes l.key)) (map (λ s. s.now) (drop l.name-index l.names)) ≡ list_any (text_eq (string_bytes l.key)) (map (λ s. s.now) l.names)
