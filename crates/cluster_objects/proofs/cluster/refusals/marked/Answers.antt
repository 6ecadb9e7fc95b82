use Rattle.std.proofs.Common.{◌∙◌, ap}
use Rattle.std.proofs.lemmas.List.Filters.{dedup_is}
use Rattle.cl_types.specs.Addr.{addr_order, addr_order_total}
use Rattle.cl_types.specs.AddrEq.{addr_eq_by_order}
use Rattle.cl_types.specs.Ascending.{sorted_set}
use Rattle.cl_types.specs.OrderLaws.{addr_order_exact}
use Rattle.cl_types.specs.SortedSetLaws.{dedup_sorted}
use Rattle.cluster_objects.proofs.cluster.refusals.marked.Goals as goal

pub returns : goal.returns
returns c =
    dedup_is _ _ _ c.dedup.ensures.filtered
    ∙ dedup_sorted addr_order_total addr_order_exact _ addr_eq_by_order _ _ c.in_ok-sort.ensures.permutation c.in_ok-sort.ensures.sorted
    ∙ ap (sorted_set addr_order) c.in_ok-addresses.ensures
