-- What is read of labels and selectors, with whatever faults, keeps what their types keep.
use Rattle.std.proofs.Common.{◌≡◌, ℕ, List, [], ◌∷◌, ◌++◌, length, map, Bool, true, false, not, eqb, ◌&&◌, ◌==◌, Option, Some, None, option_map, codes, if◌then◌else◌, refl, sym, ap, ◌∙◌, arith}
use Rattle.std.specs.List.{AllByRecursion, cons_option, filter_map, list_any, list_all}
use Rattle.std.specs.Prelude.{IfSome}
use Rattle.std.proofs.lemmas.Bool.{and_parts, and_from}
use Rattle.std.proofs.lemmas.Bool.Decides.{nat_tests}
use Rattle.serde_json.specs.Data.{Data}
use Rattle.serde_json.specs.Find.{as_str}
use Rattle.cl_types.specs.Ascending.{Ascends, sorted_set}
use Rattle.cl_types.specs.AscendingLaws.{ascends_put, ascends_sorted, all_sorted}
use Rattle.cl_types.specs.OrderLaws.{text_order_exact}
use Rattle.cl_types.specs.SortedSetLaws.{list_any-sorted_set, list_all-sorted_set}
use Rattle.cl_types.specs.Text.{text_order, text_order_total}
use Rattle.label_select.specs.declared.labels.Label.{Label}
use Rattle.label_select.specs.declared.selector.Op.{Op}
use Rattle.label_select.specs.declared.selector.Op.TheVariants.{OneOf}
use Rattle.label_select.specs.Canonical.{need_order, need_order_total, with_sorted_values, canonical, IsSelection}
use Rattle.label_select.specs.Forms.{is_label_key, is_label_value}
use Rattle.label_select.specs.Selection.{Requirement, IsNeed, takes_values}
use Rattle.json_fields.specs.Fields.{field, inner}
use Rattle.json_fields.specs.Names.{is_label, where_label, label_of, with_label, labels_from, members_of, labels_value}
use Rattle.json_fields.specs.Selectors.{operator_of, has_count, need_from, element_text, expression_need, label_need, label_needs, expression_needs, selector_value}
use Rattle.json_fields.specs.Shapes.{text_value, items_of}

-- ---- lists

-- what holds of all items of two lists holds of those of both in a row
pub all_append : {T : Type 0} (P : T → Type 0) (xs ys : List T) → AllByRecursion P xs → AllByRecursion P ys → AllByRecursion P (xs ++ ys)
all_append P [] ys all more = more
all_append P (x ∷ xs) ys all more = (all.0, all_append P xs ys all.1 more)

-- what holds of whatever is given of an item holds of all that is given of a list
pub all_given : {X T : Type 0} (P : T → Type 0) (give : X → Option T) → ((a : X) → IfSome (give a) P) → (zs : List X) → AllByRecursion P (filter_map give zs)
all_given P give each [] = tt
all_given P give each (a ∷ zs) = by_cases (give a) (each a) (all_given P give each zs)
  where
    by_cases : (o : Option _) → IfSome o P → AllByRecursion P (filter_map give zs) → AllByRecursion P (cons_option o (filter_map give zs))
    by_cases None one rest = rest
    by_cases (Some x) one rest = (one, rest)

-- ---- labels

with_label_ascends : (labels : List Label) (key : List ℕ) (o : Option (List ℕ)) → Ascends (λ (l : Label). l.key) text_order labels → Ascends (λ (l : Label). l.key) text_order (with_label labels key o)
with_label_ascends labels key None up = up
with_label_ascends labels key (Some value) up = ascends_put (λ (l : Label). l.key) text_order_total (record { key = key; value = value }) labels up

labels_from_ascend : (ms : List (List ℕ × Data)) (labels : List Label) → Ascends (λ (l : Label). l.key) text_order labels → Ascends (λ (l : Label). l.key) text_order (labels_from ms labels)
unfolding labels_from
labels_from_ascend [] labels up = up
labels_from_ascend (m ∷ ms) labels up =
    labels_from_ascend ms (with_label labels m.0 (label_of m)) (with_label_ascends labels m.0 (label_of m) up)

-- labels ascend by their keys
pub labels_ascend : (o : Option Data) → Ascends (λ (l : Label). l.key) text_order (labels_value o)
unfolding labels_value
labels_ascend o = labels_from_ascend (members_of o) [] tt

-- ---- needs

abbrev of_value : List ℕ → List ℕ → Requirement
of_value key value = record { key = key; op = OneOf; values = value ∷ [] }

where_label_need : (key : List ℕ) (o : Option (List ℕ)) → IfSome (option_map (of_value key) (where_label key o)) IsNeed
where_label_need key None = tt
where_label_need key (Some text) = by_test (is_label key text) refl
  where
    by_test : (b : Bool) → is_label key text ≡ b → IfSome (option_map (of_value key) (if b then Some text else None)) IsNeed
    by_test true is =
        let parts = and_parts (is_label_key key) (is_label_value text) is in
        record { key_form = parts.0; value_forms = and_from (is_label_value text) true parts.1 refl; value_count = refl }
    by_test false is = tt

label_need_is : (m : List ℕ × Data) → IfSome (label_need m) IsNeed
unfolding label_of
label_need_is m = where_label_need m.0 (as_str m.1)

counted : (takes empty : Bool) → (if takes then not empty else empty) ≡ true → takes ≡ not empty
counted true empty is = sym is
counted false empty is = sym (ap not is)

need_from_is : (key : List ℕ) (o : Option Op) (values : List (List ℕ)) → IfSome (need_from key o values) IsNeed
need_from_is key None values = tt
need_from_is key (Some op) values = by_test (is_label_key key && (list_all is_label_value values && has_count op (length values))) refl
  where
    by_test : (b : Bool) → (is_label_key key && (list_all is_label_value values && has_count op (length values))) ≡ b
        → IfSome (if b then Some (record { key = key; op = op; values = values }) else None) IsNeed
    by_test true is =
        let parts = and_parts (is_label_key key) _ is in
        let of_values = and_parts (list_all is_label_value values) (has_count op (length values)) parts.1 in
        record { key_form = parts.0; value_forms = of_values.0; value_count = counted (takes_values op) (length values == 0) of_values.1 }
    by_test false is = tt

expression_need_is : (d : Data) → IfSome (expression_need d) IsNeed
unfolding expression_need
expression_need_is d =
    need_from_is (text_value (field (codes "key") d)) (operator_of (text_value (field (codes "operator") d))) (map element_text (items_of (field (codes "values") d)))

-- ---- selectors

-- a list is empty where none of it passes a test that all pass
empty_is : {T : Type 0} (xs : List T) → eqb (length xs) 0 ≡ not (list_any (λ x. true) xs)
empty_is [] = refl
empty_is (x ∷ xs) = grind (arith, nat_tests)

-- a need keeps its form where its values are sorted
sorted_values_is : (need : Requirement) → IsNeed need → IsNeed (with_sorted_values need)
sorted_values_is need is = record {
  key_form = is.key_form;
  value_forms = list_all-sorted_set text_order_exact is_label_value need.values ∙ is.value_forms;
  value_count =
      is.value_count
      ∙ ap not (empty_is need.values ∙ ap not (sym (list_any-sorted_set text_order_exact (λ v. true) need.values)) ∙ sym (empty_is (sorted_set text_order need.values)));
}

all_sorted_values : (needs : List Requirement) → AllByRecursion IsNeed needs → AllByRecursion IsNeed (map with_sorted_values needs)
all_sorted_values [] all = tt
all_sorted_values (n ∷ ns) all = (sorted_values_is n all.0, all_sorted_values ns all.1)

values_ascend : (needs : List Requirement) → AllByRecursion (λ n. Ascends (λ v. v) text_order n.values) (map with_sorted_values needs)
values_ascend [] = tt
values_ascend (n ∷ ns) = (ascends_sorted (λ v. v) text_order_total n.values, values_ascend ns)

canonical_is : (needs : List Requirement) → AllByRecursion IsNeed needs → IsSelection (record { needs = canonical needs })
canonical_is needs all = record {
  need_forms = all_sorted (λ n. n) need_order IsNeed (map with_sorted_values needs) (all_sorted_values needs all);
  needs_ascend = ascends_sorted (λ n. n) need_order_total (map with_sorted_values needs);
  values_ascend = all_sorted (λ n. n) need_order (λ n. Ascends (λ v. v) text_order n.values) (map with_sorted_values needs) (values_ascend needs);
}

-- a selector has whole needs, in canonical form
pub selector_is : (o : Option Data) → IsSelection (selector_value o)
unfolding selector_value label_needs expression_needs
selector_is o =
    canonical_is (label_needs o ++ expression_needs o)
    (all_append IsNeed (label_needs o) (expression_needs o)
    (all_given IsNeed label_need label_need_is (members_of (inner (codes "matchLabels") o)))
    (all_given IsNeed expression_need expression_need_is (items_of (inner (codes "matchExpressions") o))))
