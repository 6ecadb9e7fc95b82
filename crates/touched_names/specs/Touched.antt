-- The changes under some names alone, and when these are all changes (this project's own).
use Rattle.std.specs.Prelude.{◌≡◌, ℕ, List, Bool, false}
use Rattle.std.specs.List.{flat_map, list_any}
use Rattle.std.specs.Ordering.{is_eq}
use Rattle.cl_types.specs.Ascending.{Ascends, found}
use Rattle.cl_types.specs.Text.{text_order}
use Rattle.watch_streams.specs.declared.message.StreamChange.{StreamChange}
use Rattle.watch_streams.specs.declared.message.StreamObject.{StreamObject}
use Rattle.watch_streams.specs.Difference.{changed, difference}
use Rattle.watch_streams.specs.Names.{AscendByName, at_text}

-- the changes under the names of these texts, in the order of the texts
abbrev pub difference_over : List (List ℕ) → List StreamObject → List StreamObject → List StreamChange
difference_over touched old new = flat_map (λ text. changed (found (at_text text) old) (found (at_text text) new)) touched

-- the text is one of these
abbrev pub has_text : List (List ℕ) → List ℕ → Bool
has_text texts text = list_any (λ t. is_eq (text_order t text)) texts

-- where the same stands under every other name, nothing else changes
abbrev pub DifferencesAreOverTouchedNames : Type 0
DifferencesAreOverTouchedNames =
    (touched : List (List ℕ)) (old new : List StreamObject) →
    Ascends (λ t. t) text_order touched → AscendByName old → AscendByName new →
    ((text : List ℕ) → has_text touched text ≡ false → found (at_text text) old ≡ found (at_text text) new) →
    difference old new ≡ difference_over touched old new
