use Rattle.cl_types.specs.OrderLaws.{text_order_exact}
use Rattle.label_select.proofs.CanonicalNeeds.{sorted_values-is}
use Rattle.label_select.proofs.canonical.sort_values.Goals as goal

pub sort_once-requires : goal.sort_once-requires
sort_once-requires c = text_order_exact

pub invariant_of-result : goal.invariant_of-result
invariant_of-result c =
    rw (c.in_ok-sort_once.ensures, c.vec_mut.ensures.value) (sorted_values-is _ c.need.invariant)

pub returns-clause-form : goal.returns-clause-form
returns-clause-form c =
    rw (c.in_ok-sort_once.ensures, c.vec_mut.ensures.value) (sorted_values-is _ c.need.invariant)
