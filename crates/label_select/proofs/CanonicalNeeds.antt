-- The canonical form of needs asks what the needs ask, and keeps what types keep.
use Rattle.std.proofs.Common.{◌≡◌, ℕ, List, [], ◌∷◌, length, Bool, true, false, not, eqb, ◌&&◌, Option, Some, None, map, reverse, ◌++◌, append-nil, refl, sym, ap, ◌∙◌, arith}
use Rattle.std.specs.List.{AllByRecursion, list_any, list_all}
use Rattle.std.specs.Ordering.{nat_cmp}
use Rattle.std.specs.FinMap.{IsAntisymmetric, nat_cmp-IsAntisymmetric, slice_cmp-IsAntisymmetric}
use Rattle.std.proofs.lemmas.Bool.Decides.{nat_tests}
use Rattle.std.proofs.lemmas.List.Sorted.{IsPermutation-reverse}
use Rattle.cl_types.specs.Ascending.{Ascends, sorted_set}
use Rattle.cl_types.specs.Text.{text_eq, text_order, text_order_total}
use Rattle.label_select.specs.declared.labels.Label.{Label}
use Rattle.label_select.specs.declared.selector.Op.{Op}
use Rattle.label_select.specs.declared.selector.Op.TheVariants.{OneOf, NoneOf, Present, Missing}
use Rattle.label_select.specs.Forms.{is_label_value}
use Rattle.label_select.specs.Selection.{Requirement, IsNeed, value_at, has_one_of, meets_op, meets}
use Rattle.label_select.specs.Canonical.{op_place, need_order, need_order_total, with_sorted_values, canonical, IsSelection}
use Rattle.cl_types.specs.AscendingLaws.{ascends_sorted, all_sorted}
use Rattle.cl_types.specs.SortedSetLaws.{list_any-sorted_set, list_all-sorted_set, sorted_set-permutation}
use Rattle.cl_types.specs.OrderLaws.{both_equal, text_order_exact}

op_place-exact : (a b : Op) → op_place a ≡ op_place b → a ≡ b
op_place-exact a b e = sym (back a) ∙ ap op_at e ∙ back b
  where
    op_at : ℕ → Op
    op_at n = if_is (eqb n 0) OneOf (if_is (eqb n 1) NoneOf (if_is (eqb n 2) Present Missing))
      where
        if_is : Bool → Op → Op → Op
        if_is true a b = a
        if_is false a b = b

    back : (o : Op) → op_at (op_place o) ≡ o
    back OneOf = refl
    back NoneOf = refl
    back Present = refl
    back Missing = refl

pub need_order-exact : IsAntisymmetric need_order
need_order-exact a b e =
    let by_key = both_equal (text_order a.key b.key) _ e in
    let by_op = both_equal (nat_cmp (op_place a.op) (op_place b.op)) _ by_key.1 in
    let key = text_order_exact a.key b.key by_key.0 in
    let op = op_place-exact a.op b.op (nat_cmp-IsAntisymmetric (op_place a.op) (op_place b.op) by_op.0) in
    let values = slice_cmp-IsAntisymmetric text_order_exact a.values b.values by_op.1 in
    (λ i. record { key = key i; op = op i; values = values i })

has_one_of-sorted : (value : Option (List ℕ)) (values : List (List ℕ)) → has_one_of value (sorted_set text_order values) ≡ has_one_of value values
has_one_of-sorted None values = refl
has_one_of-sorted (Some v) values = list_any-sorted_set text_order_exact (text_eq v) values

meets_op-sorted : (op : Op) (value : Option (List ℕ)) (values : List (List ℕ)) → meets_op op value (sorted_set text_order values) ≡ meets_op op value values
meets_op-sorted OneOf value values = has_one_of-sorted value values
meets_op-sorted NoneOf value values = ap not (has_one_of-sorted value values)
meets_op-sorted Present value values = refl
meets_op-sorted Missing value values = refl

module _ (labels : List Label) where
  meets_all-sorted_values : (needs : List Requirement) → list_all (meets labels) (map with_sorted_values needs) ≡ list_all (meets labels) needs
  meets_all-sorted_values [] = refl
  meets_all-sorted_values (n ∷ ns) =
      (λ i. meets_op-sorted n.op (value_at labels n.key) n.values i && meets_all-sorted_values ns i)

  -- the canonical form selects the same labels
  pub meets_all-canonical : (needs : List Requirement) → list_all (meets labels) (canonical needs) ≡ list_all (meets labels) needs
  meets_all-canonical needs =
      list_all-sorted_set need_order-exact (meets labels) (map with_sorted_values needs) ∙ meets_all-sorted_values needs

-- what a loop that takes needs from the end leaves, once nothing is left to take, is sorted to the canonical form
pub canonical-taken : (needs left taken : List Requirement) → taken ++ reverse (map with_sorted_values left) ≡ reverse (map with_sorted_values needs) → length left ≡ 0 → sorted_set need_order taken ≡ canonical needs
canonical-taken needs [] taken is none =
    ap (sorted_set need_order) (sym (append-nil taken) ∙ is)
    ∙ sorted_set-permutation need_order_total need_order-exact (map with_sorted_values needs) (reverse (map with_sorted_values needs)) (IsPermutation-reverse (map with_sorted_values needs))
canonical-taken needs (n ∷ ns) taken is some = absurd (omega arith)

values_ascend : (needs : List Requirement) → AllByRecursion (λ n. Ascends (λ v. v) text_order n.values) (map with_sorted_values needs)
values_ascend [] = tt
values_ascend (n ∷ ns) = (ascends_sorted (λ v. v) text_order_total n.values, values_ascend ns)

pub canonical-is : (needs : List Requirement) → AllByRecursion IsNeed (canonical needs) → IsSelection (record { needs = canonical needs })
canonical-is needs forms = record {
  need_forms = forms;
  needs_ascend = ascends_sorted (λ n. n) need_order_total (map with_sorted_values needs);
  values_ascend = all_sorted (λ n. n) need_order (λ n. Ascends (λ v. v) text_order n.values) (map with_sorted_values needs) (values_ascend needs);
}

-- a list is empty where none of it passes a test that all pass
empty_is : {T : Type 0} (xs : List T) → eqb (length xs) 0 ≡ not (list_any (λ x. true) xs)
empty_is [] = refl
empty_is (x ∷ xs) = grind (arith, nat_tests)

-- a need keeps its form where its values are sorted
pub sorted_values-is : (need : Requirement) → IsNeed need → IsNeed (with_sorted_values need)
sorted_values-is need is = record {
  key_form = is.key_form;
  value_forms = list_all-sorted_set text_order_exact is_label_value need.values ∙ is.value_forms;
  value_count =
      is.value_count
      ∙ ap not (empty_is need.values ∙ ap not (sym (list_any-sorted_set text_order_exact (λ v. true) need.values)) ∙ sym (empty_is (sorted_set text_order need.values)));
}
