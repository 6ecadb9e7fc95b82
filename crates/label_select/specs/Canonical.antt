-- The canonical form of a selector's needs (this project's own, so that selectors of one meaning written in
-- another order are one group).
use Rattle.std.specs.Prelude.{ℕ, List, map}
use Rattle.std.specs.List.{AllByRecursion}
use Rattle.std.specs.declared.cmp.Ordering.{Ordering}
use Rattle.std.specs.Ordering.{ordering_then, nat_cmp}
use Rattle.std.specs.Cmp.{IsTotalOrder}
use Rattle.std.specs.Cmp.Lexicographic.{slice_cmp}
use Rattle.std.proofs.lemmas.Cmp.{on_total, then_total, lists_total, nat_cmp_total}
use Rattle.cl_types.specs.Ascending.{Ascends, sorted_set}
use Rattle.cl_types.specs.Text.{text_order, text_order_total}
use Rattle.label_select.specs.declared.selector.Op.{Op}
use Rattle.label_select.specs.declared.selector.Op.TheVariants.{OneOf, NoneOf, Present, Missing}
use Rattle.label_select.specs.Selection.{Requirement, Selection, IsNeed}

-- In, NotIn, Exists, DoesNotExist
abbrev pub op_place : Op → ℕ
op_place OneOf = 0
op_place NoneOf = 1
op_place Present = 2
op_place Missing = 3

-- needs by key, then operator, then values
abbrev pub need_order : Requirement → Requirement → Ordering
need_order a b =
    ordering_then (text_order a.key b.key)
    (ordering_then (nat_cmp (op_place a.op) (op_place b.op)) (slice_cmp text_order a.values b.values))

pub need_order_total : IsTotalOrder need_order
need_order_total =
    then_total (on_total (λ (n : Requirement). n.key) text_order_total)
    (then_total (on_total (λ (n : Requirement). op_place n.op) nat_cmp_total) (on_total (λ (n : Requirement). n.values) (lists_total text_order_total)))

-- the need with its values in order
abbrev pub with_sorted_values : Requirement → Requirement
with_sorted_values need = record { key = need.key; op = need.op; values = sorted_set text_order need.values }

-- the needs in order, each with its values in order
abbrev pub canonical : List Requirement → List Requirement
canonical needs = sorted_set need_order (map with_sorted_values needs)

-- what a selector keeps: the forms of its needs, the needs ascend, and so do the values of each
pub record IsSelection (s : Selection) : Type 0 where
  pub need_forms : AllByRecursion IsNeed s.needs
  pub needs_ascend : Ascends (λ n. n) need_order s.needs
  pub values_ascend : AllByRecursion (λ n. Ascends (λ v. v) text_order n.values) s.needs
