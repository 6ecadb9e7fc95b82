use Rattle.std.proofs.Common.{◌≡◌, length}
use Rattle.cl_types.specs.Ascending.{Ascends, sorted_by}
use Rattle.watch_streams.proofs.Sorting.{sorted_onto}
use Rattle.watch_streams.proofs.in_order.sorted.Given as goal

-- what is left, put among what is sorted, is all
abbrev pub invariant-loop-item : goal.invariant-loop-item
invariant-loop-item g l = record {
  taken : sorted_onto g.T.Keyed.key g.T.Key.Ord.cmp l.items.items l.sorted.items ≡ sorted_by g.T.Keyed.key g.T.Key.Ord.cmp l.initial.items.items;
  ascends : Ascends g.T.Keyed.key g.T.Key.Ord.cmp l.sorted.items;
}

abbrev pub decreases-loop-item : goal.decreases-loop-item
decreases-loop-item g l = length l.items.items
