-- The shapes that recur among the fields of objects: the faults that a field has, and what it means. A field
-- that is absent is `None`; one with a fault may mean anything.
use Rattle.std.specs.Prelude.{ℕ, List, [], ◌∷◌, Bool, Option, Some, None, is_some, ◌&&◌, nat_le, option_and_then, if◌then◌else◌, unwrap_or}
use Rattle.std.specs.List.{filter_map}
use Rattle.serde_json.specs.Data.{Data}
use Rattle.serde_json.specs.Find.{as_bool, as_str}
use Rattle.json_fields.specs.declared.refusal.ReadRefusal.{ReadRefusal}
use Rattle.json_fields.specs.declared.refusal.ReadRefusal.TheVariants.{BadShape}
use Rattle.json_fields.specs.Faults.{at, each_from}
use Rattle.json_fields.specs.Fields.{elements, inner, is_object, whole_number}

-- the value itself is missing or of another kind
abbrev pub shape_fault : List ReadRefusal
shape_fault = BadShape [] ∷ []

-- a fault where a test fails
abbrev pub unless : Bool → ReadRefusal → List ReadRefusal
unless test fault = if test then [] else fault ∷ []

-- a field that must be there
abbrev pub required : (Option Data → List ReadRefusal) → Option Data → List ReadRefusal
required faults None = shape_fault
required faults (Some d) = faults (Some d)

-- the faults of the field with this name, told of the object
unfoldable pub in_field : List ℕ → (Option Data → List ReadRefusal) → Option Data → List ReadRefusal
in_field name faults o = at name (faults (inner name o))

-- ---- one value

-- an object where it is there
unfoldable pub object_faults : Option Data → List ReadRefusal
object_faults None = []
object_faults (Some d) = unless (is_object d) (BadShape [])

-- a text where it is there
unfoldable pub text_faults : Option Data → List ReadRefusal
text_faults None = []
text_faults (Some d) = unless (is_some (as_str d)) (BadShape [])

-- a truth value where it is there
unfoldable pub truth_faults : Option Data → List ReadRefusal
truth_faults None = []
truth_faults (Some d) = unless (is_some (as_bool d)) (BadShape [])

-- the text of a field
unfoldable pub text_of : Option Data → Option (List ℕ)
text_of o = option_and_then as_str o

-- the text of a field, empty where there is none
unfoldable pub text_value : Option Data → List ℕ
text_value o = unwrap_or (text_of o) []

-- the truth value of a field, where there is one
unfoldable pub truth_of : Option Data → Option Bool
truth_of o = option_and_then as_bool o

-- the whole number of a field, where it is from lo to hi
unfoldable pub number_within : ℕ → ℕ → Option Data → Option ℕ
number_within lo hi o =
    option_and_then (λ n. if nat_le lo n && nat_le n hi then Some n else None) (option_and_then whole_number o)

-- ---- lists

-- a list whose elements have these faults
abbrev pub elements_faults : (Data → List ReadRefusal) → Option (List Data) → List ReadRefusal
elements_faults faults None = shape_fault
elements_faults faults (Some ds) = each_from faults 0 ds

-- a list where it is there
unfoldable pub list_faults : (Data → List ReadRefusal) → Option Data → List ReadRefusal
list_faults faults None = []
list_faults faults (Some d) = elements_faults faults (elements d)

-- the elements of a list; of what is absent or no list there are none
abbrev pub given_elements : Option (List Data) → List Data
given_elements None = []
given_elements (Some ds) = ds

unfoldable pub items_of : Option Data → List Data
items_of None = []
items_of (Some d) = given_elements (elements d)

-- a list of texts where it is there
abbrev pub element_faults : Data → List ReadRefusal
element_faults d = text_faults (Some d)

-- the texts among the elements of a list
unfoldable pub texts_of : Option Data → List (List ℕ)
texts_of o = filter_map as_str (items_of o)
