use Rattle.std.proofs.Common.{sym, ap, ◌∙◌}
use Rattle.watch_streams.proofs.Sorting.{sorted_onto, onto_last, onto_none}
use Rattle.watch_streams.proofs.in_order.sorted.Goals as goal

pub loop-item-init : goal.loop-item-init
loop-item-init g c =
    record {
      taken = rw c.new-sorted.ensures.items (onto_none g.T.Keyed.key g.T.Key.Ord.cmp c.args.items.items);
      ascends = rw c.new-sorted.ensures.items tt;
    }

pub loop-item-preserved : goal.loop-item-preserved
loop-item-preserved g c =
    record {
      taken =
          rw c.in_ok-put.ensures.ok
          (sym (onto_last g.T.Keyed.key g.T.Key.Ord.cmp c.pop.new.self.items c.in-Some.item c.loop-item.sorted.items)
          ∙ ap (λ ps. sorted_onto g.T.Keyed.key g.T.Key.Ord.cmp ps c.loop-item.sorted.items) (sym c.in-Some.ensures.items)
          ∙ c.loop-item.invariant.taken);
      ascends = c.put.ensures.ascends;
    }
