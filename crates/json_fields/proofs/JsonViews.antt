-- The lists that arrays and objects of JSON are.
use Rattle.std.proofs.Common.{◌≡◌, ℕ, List, [], ◌∷◌, map, String, Global, string_bytes, Bool, true, false, Some, None, Ok, Err, if◌then◌else◌, refl, ap, ◌∙◌}
use Rattle.std.specs.Str.{IsUtf8, is_utf8}
use Rattle.std.proofs.lemmas.Str.{is_utf8-from_IsUtf8, IsUtf8-from_is_utf8}
use Rattle.serde_json.specs.Read.{read}
use Rattle.json_fields.specs.declared.refusal.ReadRefusal.TheVariants.{NotJson}
use Rattle.serde_json.specs.Data.{Data}
use Rattle.serde_json.specs.View.{view, items_of, members_of}
use Rattle.serde_json.specs.declared.value.Value.{Value}
use Rattle.json_fields.specs.Fields.{list_of, pairs_of, json_of, data_of}

pub list_of-items_of : (ds : List Data) → list_of (items_of ds) ≡ ds
list_of-items_of [] = refl
list_of-items_of (d ∷ ds) = ap (λ es. d ∷ es) (list_of-items_of ds)

pub pairs_of-members_view : (ms : List (String Global × Value)) → pairs_of (members_of (map (λ m. (m.0, view m.1)) ms)) ≡ map (λ e. (string_bytes e.0, view e.1)) ms
pairs_of-members_view [] = refl
pairs_of-members_view (m ∷ ms) = ap (λ es. (string_bytes m.0, view m.1) ∷ es) (pairs_of-members_view ms)

-- ---- what bytes are as JSON

pub data_of-ok : (bytes : List ℕ) (d : Data) → IsUtf8 bytes → read bytes ≡ Some d → data_of bytes ≡ Ok d
unfolding data_of
data_of-ok bytes d utf8 is = ap (λ b. if b then json_of (read bytes) else Err NotJson) (is_utf8-from_IsUtf8 bytes utf8) ∙ ap json_of is

pub data_of-err : (bytes : List ℕ) → (IsUtf8 bytes → read bytes ≡ None) → data_of bytes ≡ Err NotJson
unfolding data_of
data_of-err bytes none = by_cases (is_utf8 bytes) refl
  where
    by_cases : (b : Bool) → is_utf8 bytes ≡ b → (if b then json_of (read bytes) else Err NotJson) ≡ Err NotJson
    by_cases true is = ap json_of (none (IsUtf8-from_is_utf8 bytes is))
    by_cases false is = refl
