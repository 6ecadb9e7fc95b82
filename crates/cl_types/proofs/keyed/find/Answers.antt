use Rattle.std.proofs.Common.{sym, ◌∙◌, ap, Some}
use Rattle.cl_types.specs.AscendingLaws.{found_at_place, found_in_gap}
use Rattle.cl_types.proofs.keyed.find.Goals as goal

pub returns-in-Ok : goal.returns-in-Ok
returns-in-Ok g c =
    let p = c.in-Ok.ensures.found in
    ap Some c.index-items-i.is ∙ sym (found_at_place (λ x. g.T.Key.Ord.cmp (g.T.Keyed.key x) c.args.key.now) c.args.items.now _ c.index-items-i.result p.within p.here p.before)

pub returns-in-Err : goal.returns-in-Err
returns-in-Err g c =
    let p = c.in-Err.ensures.absent in
    sym (found_in_gap (λ x. g.T.Key.Ord.cmp (g.T.Keyed.key x) c.args.key.now) c.args.items.now _ p.within p.before p.after)
