use Rattle.std.proofs.Common.{sym, ◌∙◌, arith}
use Rattle.std.proofs.lemmas.List.Edits.{length-insert}
use Rattle.cl_types.specs.AscendingLaws.{ascends_put, put_at_place, put_in_gap}
use Rattle.cluster_objects.proofs.room.put_in_room.Goals as goal

pub returns-in-Ok-clause-items : goal.returns-in-Ok-clause-items
returns-in-Ok-clause-items g c =
    let p = rw (c.deref.ensures.value, c.key.ensures) at c.in-Ok.ensures.found in
    sym (put_at_place (λ x. g.T.Key.Ord.cmp (g.T.Keyed.key x) (g.T.Keyed.key c.args.item)) c.args.item c.args.items.now.items _ p.within p.here p.before)

pub returns-in-Ok-clause-ascends : goal.returns-in-Ok-clause-ascends
returns-in-Ok-clause-ascends g c =
    let p = rw (c.deref.ensures.value, c.key.ensures) at c.in-Ok.ensures.found in
    rw (← put_at_place (λ x. g.T.Key.Ord.cmp (g.T.Keyed.key x) (g.T.Keyed.key c.args.item)) c.args.item c.args.items.now.items _ p.within p.here p.before)
    (ascends_put g.T.Keyed.key g.met.T.Key.Ord.total c.args.item c.args.items.now.items c.requires.ascends)

pub insert_in_room-requires-clause-room : goal.insert_in_room-requires-clause-room
insert_in_room-requires-clause-room g c =
    let p = rw (c.deref.ensures.value, c.key.ensures) at c.in-Err.ensures.absent in
    let place = put_in_gap (λ x. g.T.Key.Ord.cmp (g.T.Keyed.key x) (g.T.Keyed.key c.args.item)) c.args.item c.args.items.now.items _ p.within p.before p.after in
    let longer = length-insert c.args.items.now.items c.in-Err.i c.args.item p.within in
    let room = rw place at c.requires.room in
    let len = rw c.deref.ensures.value at c.deref.ensures.len in
    omega arith

pub returns-in-Err-clause-items : goal.returns-in-Err-clause-items
returns-in-Err-clause-items g c =
    let p = rw (c.deref.ensures.value, c.key.ensures) at c.in-Err.ensures.absent in
    c.insert_in_room.ensures.items ∙ sym (put_in_gap (λ x. g.T.Key.Ord.cmp (g.T.Keyed.key x) (g.T.Keyed.key c.args.item)) c.args.item c.args.items.now.items _ p.within p.before p.after)

pub returns-in-Err-clause-ascends : goal.returns-in-Err-clause-ascends
returns-in-Err-clause-ascends g c =
    let p = rw (c.deref.ensures.value, c.key.ensures) at c.in-Err.ensures.absent in
    rw (c.insert_in_room.ensures.items, ← put_in_gap (λ x. g.T.Key.Ord.cmp (g.T.Keyed.key x) (g.T.Keyed.key c.args.item)) c.args.item c.args.items.now.items _ p.within p.before p.after)
    (ascends_put g.T.Keyed.key g.met.T.Key.Ord.total c.args.item c.args.items.now.items c.requires.ascends)
