-- The place of a policy among others: its tier and its priority (Antrea; whole-number priorities are this project's own).
use Rattle.std.specs.Prelude.{ℕ, List, [], ◌∷◌, Bool, Option, is_some, unwrap_or, codes}
use Rattle.std.specs.Str.{str_to_ascii_lowercase}
use Rattle.serde_json.specs.Data.{Data}
use Rattle.cl_types.specs.Text.{text_eq}
use Rattle.json_fields.specs.declared.refusal.ReadRefusal.{ReadRefusal}
use Rattle.json_fields.specs.declared.refusal.ReadRefusal.TheVariants.{BadPriority}
use Rattle.json_fields.specs.Fields.{inner}
use Rattle.json_fields.specs.Shapes.{unless, in_field, text_faults, text_value, number_within}

unfoldable pub tier_faults : Option Data → List ReadRefusal
tier_faults spec = in_field (codes "tier") text_faults spec

-- the tier where none is given
abbrev pub default_tier : List ℕ
default_tier = codes "application"

abbrev pub given_tier : List ℕ → List ℕ
given_tier [] = default_tier
given_tier (b ∷ bs) = b ∷ bs

-- the tier as it is written
unfoldable pub tier_name : Option Data → List ℕ
tier_name spec = given_tier (text_value (inner (codes "tier") spec))

-- the name of Baseline, without regard to case
unfoldable pub is_baseline : List ℕ → Bool
is_baseline tier = text_eq (str_to_ascii_lowercase tier) (codes "baseline")

unfoldable pub is_in_baseline : Option Data → Bool
is_in_baseline spec = is_baseline (tier_name spec)

-- a whole number of 1 to 10000
unfoldable pub priority_of : Option Data → Option ℕ
priority_of spec = number_within 1 10000 (inner (codes "priority") spec)

unfoldable pub priority_faults : Option Data → List ReadRefusal
priority_faults spec = unless (is_some (priority_of spec)) BadPriority

unfoldable pub priority_value : Option Data → ℕ
priority_value spec = unwrap_or (priority_of spec) 0
