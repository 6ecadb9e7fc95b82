-- Selectors by labels (Kubernetes: label selectors).
use Rattle.std.specs.Prelude.{ℕ, List, [], ◌∷◌, ◌++◌, map, length, Bool, false, not, ◌&&◌, ◌==◌, Option, Some, None, option_map, codes, if◌then◌else◌}
use Rattle.std.specs.List.{list_all, filter_map}
use Rattle.serde_json.specs.Data.{Data}
use Rattle.serde_json.specs.Find.{as_str}
use Rattle.cl_types.specs.Text.{text_eq}
use Rattle.label_select.specs.declared.selector.Op.{Op}
use Rattle.label_select.specs.declared.selector.Op.TheVariants.{OneOf, NoneOf, Present, Missing}
use Rattle.label_select.specs.Canonical.{canonical}
use Rattle.label_select.specs.Forms.{is_label_key, is_label_value}
use Rattle.label_select.specs.Selection.{Requirement, Selection, takes_values}
use Rattle.json_fields.specs.declared.refusal.ReadRefusal.{ReadRefusal}
use Rattle.json_fields.specs.declared.refusal.ReadRefusal.TheVariants.{BadLabel, BadSelector}
use Rattle.json_fields.specs.Fields.{field, inner}
use Rattle.json_fields.specs.Names.{label_of, labels_faults, members_of}
use Rattle.json_fields.specs.Shapes.{shape_fault, unless, in_field, object_faults, text_value, list_faults, items_of}

-- ---- one expression

-- the operator of an expression
abbrev pub operator_of : List ℕ → Option Op
operator_of text =
    if text_eq text (codes "In") then Some OneOf
    else (if text_eq text (codes "NotIn") then Some NoneOf
    else (if text_eq text (codes "Exists") then Some Present else (if text_eq text (codes "DoesNotExist") then Some Missing else None)))

abbrev pub key_text_faults : Option (List ℕ) → List ReadRefusal
key_text_faults None = shape_fault
key_text_faults (Some text) = unless (is_label_key text) BadLabel

-- the key, which must be there
unfoldable pub key_faults : Option Data → List ReadRefusal
key_faults None = shape_fault
key_faults (Some d) = key_text_faults (as_str d)

-- In and NotIn go with values, and Exists and DoesNotExist with none
abbrev pub has_count : Op → ℕ → Bool
has_count op count = if takes_values op then not (count == 0) else count == 0

-- an operator beside so many values
abbrev pub is_operator : Option Op → ℕ → Bool
is_operator None count = false
is_operator (Some op) count = has_count op count

abbrev pub operator_text_faults : ℕ → Option (List ℕ) → List ReadRefusal
operator_text_faults count None = shape_fault
operator_text_faults count (Some text) = unless (is_operator (operator_of text) count) BadSelector

-- the operator, which must be there, beside so many values
unfoldable pub operator_faults : ℕ → Option Data → List ReadRefusal
operator_faults count None = shape_fault
operator_faults count (Some d) = operator_text_faults count (as_str d)

abbrev pub value_text_faults : Option (List ℕ) → List ReadRefusal
value_text_faults None = shape_fault
value_text_faults (Some text) = unless (is_label_value text) BadLabel

-- one of the values
unfoldable pub value_faults : Data → List ReadRefusal
value_faults d = value_text_faults (as_str d)

unfoldable pub expression_faults : Data → List ReadRefusal
expression_faults d =
    object_faults (Some d)
    ++ in_field (codes "key") key_faults (Some d)
    ++ in_field (codes "operator") (operator_faults (length (items_of (inner (codes "values") (Some d))))) (Some d)
    ++ in_field (codes "values") (list_faults value_faults) (Some d)

-- the need of these parts, where they have no fault
abbrev pub need_from : List ℕ → Option Op → List (List ℕ) → Option Requirement
need_from key None values = None
need_from key (Some op) values =
    if is_label_key key && (list_all is_label_value values && has_count op (length values))
    then Some (record { key = key; op = op; values = values })
    else None

abbrev pub element_text : Data → List ℕ
element_text d = text_value (Some d)

unfoldable pub expression_need : Data → Option Requirement
expression_need d =
    need_from (text_value (field (codes "key") d)) (operator_of (text_value (field (codes "operator") d)))
    (map element_text (items_of (field (codes "values") d)))

-- ---- selectors

-- a label that is matched is a need for its value
abbrev pub label_need : List ℕ × Data → Option Requirement
label_need m = option_map (λ v. record { key = m.0; op = OneOf; values = v ∷ [] }) (label_of m)

unfoldable pub match_labels_faults : Option Data → List ReadRefusal
match_labels_faults o = in_field (codes "matchLabels") labels_faults o

unfoldable pub match_expressions_faults : Option Data → List ReadRefusal
match_expressions_faults o = in_field (codes "matchExpressions") (list_faults expression_faults) o

unfoldable pub selector_faults : Option Data → List ReadRefusal
selector_faults o = object_faults o ++ match_labels_faults o ++ match_expressions_faults o

unfoldable pub label_needs : Option Data → List Requirement
label_needs o = filter_map label_need (members_of (inner (codes "matchLabels") o))

unfoldable pub expression_needs : Option Data → List Requirement
expression_needs o = filter_map expression_need (items_of (inner (codes "matchExpressions") o))

-- the selector with both kinds of needs; one that is absent selects everything
unfoldable pub selector_value : Option Data → Selection
selector_value o = record { needs = canonical (label_needs o ++ expression_needs o) }
