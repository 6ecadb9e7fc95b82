use Rattle.std.proofs.Common.{sym, ◌∙◌, ap, Some}
use Rattle.cl_types.specs.AscendingLaws.{found_at_place, found_in_gap, without_at_place, without_in_gap, ascends_without}
use Rattle.cluster_objects.proofs.room.remove_at_key.Goals as goal

pub returns-in-Ok-clause-item : goal.returns-in-Ok-clause-item
returns-in-Ok-clause-item g c =
    let p = rw c.deref.ensures.value at c.in-Ok.ensures.found in
    ap Some c.remove.ensures.value ∙ sym (found_at_place (λ x. g.T.Key.Ord.cmp (g.T.Keyed.key x) c.args.key.now) c.args.items.now.items _ c.remove.result p.within p.here p.before)

pub returns-in-Ok-clause-items : goal.returns-in-Ok-clause-items
returns-in-Ok-clause-items g c =
    let p = rw c.deref.ensures.value at c.in-Ok.ensures.found in
    c.remove.ensures.items ∙ sym (without_at_place g.T.Keyed.key g.met.T.Key.Ord.total c.args.key.now c.args.items.now.items _ c.requires p.within p.here p.before)

pub returns-in-Ok-clause-ascends : goal.returns-in-Ok-clause-ascends
returns-in-Ok-clause-ascends g c =
    let p = rw c.deref.ensures.value at c.in-Ok.ensures.found in
    rw (c.remove.ensures.items, ← without_at_place g.T.Keyed.key g.met.T.Key.Ord.total c.args.key.now c.args.items.now.items _ c.requires p.within p.here p.before)
    (ascends_without g.T.Keyed.key g.met.T.Key.Ord.total c.args.key.now c.args.items.now.items c.requires)

pub returns-in-Err-clause-item : goal.returns-in-Err-clause-item
returns-in-Err-clause-item g c =
    let p = rw c.deref.ensures.value at c.in-Err.ensures.absent in
    sym (found_in_gap (λ x. g.T.Key.Ord.cmp (g.T.Keyed.key x) c.args.key.now) c.args.items.now.items _ p.within p.before p.after)

pub returns-in-Err-clause-items : goal.returns-in-Err-clause-items
returns-in-Err-clause-items g c =
    let p = rw c.deref.ensures.value at c.in-Err.ensures.absent in
    sym (without_in_gap (λ x. g.T.Key.Ord.cmp (g.T.Keyed.key x) c.args.key.now) c.args.items.now.items _ p.within p.before p.after)
