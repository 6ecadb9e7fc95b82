use Rattle.std.proofs.Common.{◌≡◌, map, string_bytes, find}
use Rattle.serde_json.specs.View.{view}
use Rattle.json_fields.specs.Unknown.{is_other}
use Rattle.json_fields.proofs.unknown.first_other.Given as goal

-- what is sought is among the members that are left
abbrev pub invariant-loop-key : goal.invariant-loop-key
invariant-loop-key l =
    find (is_other (map (λ s. s.now) l.names)) (map (λ e. (string_bytes e.0, view e.1)) l.key-iterator)
    ≡ find (is_other (map (λ s. s.now) l.names)) (map (λ e. (string_bytes e.0, view e.1)) l.members.entries)
