-- Values of JSON as objects with fields. A field that is null is as absent.
use Rattle.std.specs.Prelude.{ℕ, List, [], ◌∷◌, Bool, Option, Some, None, Result, Ok, Err, option_map, option_and_then, is_some, if◌then◌else◌}
use Rattle.std.specs.Str.{is_utf8}
use Rattle.serde_json.specs.Data.{Data, Items, no_items, item, Members, no_members, member}
use Rattle.serde_json.specs.Find.{get, as_null, as_array, as_number, as_object, as_u64}
use Rattle.serde_json.specs.Read.{read}
use Rattle.json_fields.specs.declared.refusal.ReadRefusal.{ReadRefusal}
use Rattle.json_fields.specs.declared.refusal.ReadRefusal.TheVariants.{NotJson}

abbrev pub json_of : Option Data → Result Data ReadRefusal
json_of None = Err NotJson
json_of (Some d) = Ok d

-- the value that the bytes are, where they are JSON in UTF-8
unfoldable pub data_of : List ℕ → Result Data ReadRefusal
data_of bytes = if is_utf8 bytes then json_of (read bytes) else Err NotJson

abbrev pub is_null : Data → Bool
is_null d = is_some (as_null d)

abbrev pub present : Data → Option Data
present d = if is_null d then None else Some d

-- the field of a value, where it is an object that has the field, and the field isn't null
unfoldable pub field : List ℕ → Data → Option Data
field name d = option_and_then present (get name d)

-- the field of a value that may itself be absent
unfoldable pub inner : List ℕ → Option Data → Option Data
inner name o = option_and_then (field name) o

-- the items of an array
abbrev pub list_of : Items → List Data
list_of no_items = []
list_of (item d ds) = d ∷ list_of ds

unfoldable pub elements : Data → Option (List Data)
elements d = option_map list_of (as_array d)

-- the members of an object, by their keys in order
abbrev pub pairs_of : Members → List (List ℕ × Data)
pairs_of no_members = []
pairs_of (member k d ms) = (k, d) ∷ pairs_of ms

unfoldable pub members : Data → Option (List (List ℕ × Data))
members d = option_map pairs_of (as_object d)

abbrev pub is_object : Data → Bool
is_object d = is_some (as_object d)

-- a whole number of 64 bits without a sign: `5`, and neither `5.0` nor `-0`
abbrev pub whole_number : Data → Option ℕ
whole_number d = option_and_then as_u64 (as_number d)
