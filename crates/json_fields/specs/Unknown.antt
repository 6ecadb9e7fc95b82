-- Fields of an object that none of some names names.
use Rattle.std.specs.Prelude.{ℕ, List, [], ◌∷◌, Bool, not, ◌&&◌, Option, Some, None, option_map, find}
use Rattle.std.specs.List.{list_any}
use Rattle.serde_json.specs.Data.{Data}
use Rattle.cl_types.specs.Text.{text_eq}
use Rattle.json_fields.specs.declared.refusal.ReadRefusal.{ReadRefusal}
use Rattle.json_fields.specs.declared.refusal.ReadRefusal.TheVariants.{Unsupported}
use Rattle.json_fields.specs.Fields.{is_null}
use Rattle.json_fields.specs.Names.{members_of}

-- a member that is there, and has none of the names
abbrev pub is_other : List (List ℕ) → List ℕ × Data → Bool
is_other names m = not (is_null m.1) && not (list_any (text_eq m.0) names)

-- the field of least name that is there, and has none of the names
unfoldable pub other_field : List (List ℕ) → Option Data → Option (List ℕ)
other_field names o = option_map (λ m. m.0) (find (is_other names) (members_of o))

abbrev pub unsupported : Option (List ℕ) → List ReadRefusal
unsupported None = []
unsupported (Some name) = Unsupported name ∷ []

-- no field but those with these names is supported
unfoldable pub other_faults : List (List ℕ) → Option Data → List ReadRefusal
other_faults names o = unsupported (other_field names o)
