use Rattle.std.proofs.Common.{sym, ◌∙◌, ap, Some, arith}
use Rattle.cl_types.specs.AscendingLaws.{ascends_put, put_at_place, put_in_gap, found_at_place, found_in_gap}
use Rattle.cluster_objects.proofs.Puts.{put_longer}
use Rattle.cluster_objects.proofs.kinds.put.Goals as goal

pub returns-in_err-reserve-in-Err-clause-succeeds : goal.returns-in_err-reserve-in-Err-clause-succeeds
returns-in_err-reserve-in-Err-clause-succeeds g c =
    let p = rw (c.deref.ensures.value, c.key.ensures) at c.in-Err.ensures.absent in
    let longer = put_longer (λ x. g.T.Key.Ord.cmp (g.T.Keyed.key x) (g.T.Keyed.key c.args.item)) c.args.item c.args.items.now.items
    (found_in_gap (λ x. g.T.Key.Ord.cmp (g.T.Keyed.key x) (g.T.Keyed.key c.args.item)) c.args.items.now.items _ p.within p.before p.after) in
    λ within. absurd (omega (arith, longer, within, c.in_err-reserve-in-Err.ensures.full))

pub returns-in-Ok-clause-ok : goal.returns-in-Ok-clause-ok
returns-in-Ok-clause-ok g c =
    let p = rw (c.deref.ensures.value, c.key.ensures) at c.in-Ok.ensures.found in
    rw c.replace.ensures.after (sym (put_at_place (λ x. g.T.Key.Ord.cmp (g.T.Keyed.key x) (g.T.Keyed.key c.args.item)) c.args.item c.args.items.now.items _ p.within p.here p.before))

pub returns-in-Ok-clause-old : goal.returns-in-Ok-clause-old
returns-in-Ok-clause-old g c =
    let p = rw (c.deref.ensures.value, c.key.ensures) at c.in-Ok.ensures.found in
    ap Some (c.replace.ensures.value ∙ c.index_mut.ensures.value)
    ∙ sym (found_at_place (λ x. g.T.Key.Ord.cmp (g.T.Keyed.key x) (g.T.Keyed.key c.args.item)) c.args.items.now.items _ c.index_mut.result.now p.within p.here p.before)

pub returns-in-Ok-clause-ascends : goal.returns-in-Ok-clause-ascends
returns-in-Ok-clause-ascends g c =
    let p = rw (c.deref.ensures.value, c.key.ensures) at c.in-Ok.ensures.found in
    rw (c.replace.ensures.after, ← put_at_place (λ x. g.T.Key.Ord.cmp (g.T.Keyed.key x) (g.T.Keyed.key c.args.item)) c.args.item c.args.items.now.items _ p.within p.here p.before)
    (ascends_put g.T.Keyed.key g.met.T.Key.Ord.total c.args.item c.args.items.now.items c.requires.ascends)

pub returns-in_ok-insert-in-Err-clause-ok : goal.returns-in_ok-insert-in-Err-clause-ok
returns-in_ok-insert-in-Err-clause-ok g c =
    let p = rw (c.deref.ensures.value, c.key.ensures) at c.in-Err.ensures.absent in
    c.in_ok-insert-in-Err.ensures.items
    ∙ rw c.in_ok-reserve-in-Err.ensures.items (sym (put_in_gap (λ x. g.T.Key.Ord.cmp (g.T.Keyed.key x) (g.T.Keyed.key c.args.item)) c.args.item c.args.items.now.items _ p.within p.before p.after))

pub returns-in_ok-insert-in-Err-clause-old : goal.returns-in_ok-insert-in-Err-clause-old
returns-in_ok-insert-in-Err-clause-old g c =
    let p = rw (c.deref.ensures.value, c.key.ensures) at c.in-Err.ensures.absent in
    sym (found_in_gap (λ x. g.T.Key.Ord.cmp (g.T.Keyed.key x) (g.T.Keyed.key c.args.item)) c.args.items.now.items _ p.within p.before p.after)

pub returns-in_ok-insert-in-Err-clause-ascends : goal.returns-in_ok-insert-in-Err-clause-ascends
returns-in_ok-insert-in-Err-clause-ascends g c =
    let p = rw (c.deref.ensures.value, c.key.ensures) at c.in-Err.ensures.absent in
    rw (c.in_ok-insert-in-Err.ensures.items, c.in_ok-reserve-in-Err.ensures.items, ← put_in_gap (λ x. g.T.Key.Ord.cmp (g.T.Keyed.key x) (g.T.Keyed.key c.args.item)) c.args.item c.args.items.now.items _ p.within p.before p.after)
    (ascends_put g.T.Keyed.key g.met.T.Key.Ord.total c.args.item c.args.items.now.items c.requires.ascends)
