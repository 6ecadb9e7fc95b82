-- The directions that a Kubernetes policy has (NetworkPolicy v1: policyTypes).
use Rattle.std.specs.Prelude.{ℕ, List, [], ◌∷◌, Bool, true, false, Option, Some, None, is_some, option_and_then, codes, if◌then◌else◌}
use Rattle.std.specs.List.{list_any, filter_map}
use Rattle.serde_json.specs.Data.{Data}
use Rattle.serde_json.specs.Find.{as_str}
use Rattle.cl_types.specs.declared.keys.Dir.{Dir}
use Rattle.cl_types.specs.declared.keys.Dir.TheVariants.{Ingress, Egress}
use Rattle.cl_types.specs.Dir.{dir_eq}
use Rattle.cl_types.specs.Text.{text_eq}
use Rattle.json_fields.specs.declared.refusal.ReadRefusal.{ReadRefusal}
use Rattle.json_fields.specs.declared.refusal.ReadRefusal.TheVariants.{BadShape}
use Rattle.json_fields.specs.Fields.{inner}
use Rattle.json_fields.specs.Shapes.{unless, in_field, list_faults, items_of}

abbrev pub dir_named : List ℕ → Option Dir
dir_named text = if text_eq text (codes "Ingress") then Some Ingress else (if text_eq text (codes "Egress") then Some Egress else None)

unfoldable pub type_of : Data → Option Dir
type_of d = option_and_then dir_named (as_str d)

unfoldable pub type_faults : Data → List ReadRefusal
type_faults d = unless (is_some (type_of d)) (BadShape [])

unfoldable pub types_faults : Option Data → List ReadRefusal
types_faults spec = in_field (codes "policyTypes") (list_faults type_faults) spec

unfoldable pub types_of : Option Data → List Dir
types_of spec = filter_map type_of (items_of (inner (codes "policyTypes") spec))

-- without a type Ingress holds, and Egress where there are egress rules
abbrev pub has_ingress : List Dir → Bool
has_ingress [] = true
has_ingress (t ∷ ts) = list_any (dir_eq Ingress) (t ∷ ts)

abbrev pub has_egress : List Dir → List Data → Bool
has_egress [] [] = false
has_egress [] (d ∷ ds) = true
has_egress (t ∷ ts) ds = list_any (dir_eq Egress) (t ∷ ts)
