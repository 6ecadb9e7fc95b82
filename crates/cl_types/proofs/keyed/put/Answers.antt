use Rattle.std.proofs.Common.{sym, ◌∙◌}
use Rattle.cl_types.specs.AscendingLaws.{ascends_put, put_at_place, put_in_gap}
use Rattle.cl_types.proofs.keyed.put.Goals as goal

pub returns-in-Ok-clause-ok : goal.returns-in-Ok-clause-ok
returns-in-Ok-clause-ok g c =
    let p = rw (c.deref.ensures.value, c.key.ensures) at c.in-Ok.ensures.found in
    sym (put_at_place (λ x. g.T.Key.Ord.cmp (g.T.Keyed.key x) (g.T.Keyed.key c.args.item)) c.args.item c.args.items.now.items _ p.within p.here p.before)

pub returns-in_ok-insert-in-Err-clause-ok : goal.returns-in_ok-insert-in-Err-clause-ok
returns-in_ok-insert-in-Err-clause-ok g c =
    let p = rw (c.deref.ensures.value, c.key.ensures) at c.in-Err.ensures.absent in
    c.in_ok-insert-in-Err.ensures.items ∙ sym (put_in_gap (λ x. g.T.Key.Ord.cmp (g.T.Keyed.key x) (g.T.Keyed.key c.args.item)) c.args.item c.args.items.now.items _ p.within p.before p.after)

pub returns-in-Ok-clause-ascends : goal.returns-in-Ok-clause-ascends
returns-in-Ok-clause-ascends g c =
    let p = rw (c.deref.ensures.value, c.key.ensures) at c.in-Ok.ensures.found in
    rw (← put_at_place (λ x. g.T.Key.Ord.cmp (g.T.Keyed.key x) (g.T.Keyed.key c.args.item)) c.args.item c.args.items.now.items _ p.within p.here p.before)
    (ascends_put g.T.Keyed.key g.met.T.Key.Ord.total c.args.item c.args.items.now.items c.requires)

pub returns-in_ok-insert-in-Err-clause-ascends : goal.returns-in_ok-insert-in-Err-clause-ascends
returns-in_ok-insert-in-Err-clause-ascends g c =
    let p = rw (c.deref.ensures.value, c.key.ensures) at c.in-Err.ensures.absent in
    rw (c.in_ok-insert-in-Err.ensures.items, ← put_in_gap (λ x. g.T.Key.Ord.cmp (g.T.Keyed.key x) (g.T.Keyed.key c.args.item)) c.args.item c.args.items.now.items _ p.within p.before p.after)
    (ascends_put g.T.Keyed.key g.met.T.Key.Ord.total c.args.item c.args.items.now.items c.requires)
