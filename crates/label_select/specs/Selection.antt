-- What a label selector selects (Kubernetes, labels and selectors).
use Rattle.std.specs.Prelude.{◌≡◌, ℕ, List, length, Bool, true, false, not, ◌==◌, IsTrue, Option, option_map}
use Rattle.std.specs.List.{list_all, list_any}
use Rattle.std.specs.Option.{option_map_or}
use Rattle.cl_types.specs.Ascending.{found, put}
use Rattle.cl_types.specs.Text.{text_eq, text_order}
use Rattle.label_select.specs.declared.labels.Label.{Label}
use Rattle.label_select.specs.declared.selector.Op.{Op}
use Rattle.label_select.specs.declared.selector.Op.TheVariants.{OneOf, NoneOf, Present, Missing}
use Rattle.label_select.specs.Forms.{is_label_key, is_label_value}

-- a need as plain data
pub record Requirement : Type 0 where
  pub key : List ℕ
  pub op : Op
  pub values : List (List ℕ)

-- In and NotIn have values, the others have none
abbrev pub takes_values : Op → Bool
takes_values OneOf = true
takes_values NoneOf = true
takes_values _ = false

-- what a need keeps: the forms of its key and its values, and values exactly where its operator takes them
pub record IsNeed (need : Requirement) : Type 0 where
  pub key_form : IsTrue (is_label_key need.key)
  pub value_forms : IsTrue (list_all is_label_value need.values)
  pub value_count : takes_values need.op ≡ not (length need.values == 0)

-- a selector as plain data
pub record Selection : Type 0 where
  pub needs : List Requirement

-- the value that the labels have at a key
abbrev pub value_at : List Label → List ℕ → Option (List ℕ)
value_at labels key = option_map (λ (l : Label). l.value) (found (λ (l : Label). text_order l.key key) labels)

-- the labels with this value at the key
abbrev pub put_label : List Label → List ℕ → List ℕ → List Label
put_label labels key value = put (λ (l : Label). text_order l.key key) (record { key = key; value = value }) labels

-- whether there is a value at the key, and it is one of these
abbrev pub has_one_of : Option (List ℕ) → List (List ℕ) → Bool
has_one_of value values = option_map_or (λ v. list_any (text_eq v) values) value false

-- In: the key has one of the values. NotIn: it is missing or has none of them. Exists: it is there.
-- DoesNotExist: it is missing.
abbrev pub meets_op : Op → Option (List ℕ) → List (List ℕ) → Bool
meets_op OneOf value values = has_one_of value values
meets_op NoneOf value values = not (has_one_of value values)
meets_op Present value values = option_map_or (λ v. true) value false
meets_op Missing value values = option_map_or (λ v. false) value true

abbrev pub meets : List Label → Requirement → Bool
meets labels need = meets_op need.op (value_at labels need.key) need.values

-- a selector selects the labels that meet each of its needs; the empty selector selects everything
abbrev pub selects : Selection → List Label → Bool
selects s labels = list_all (meets labels) s.needs
