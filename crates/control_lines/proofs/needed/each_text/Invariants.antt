use Rattle.std.proofs.Common.{◌≡◌, ◌++◌, map, drop, Ok}
use Rattle.serde_json.specs.View.{view}
use Rattle.control_lines.specs.Needed.{◌>>=◌, each, text_of}
use Rattle.control_lines.proofs.needed.each_text.Given as goal

-- the texts so far with those that are left are all of them
abbrev pub invariant-loop-item : goal.invariant-loop-item
invariant-loop-item l = (each text_of (map view (drop l.item-index l.items)) >>= λ ts. Ok (l.texts.items ++ ts)) ≡ each text_of (map view l.items)
