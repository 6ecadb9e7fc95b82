use Rattle.std.proofs.Common.{refl, arith}
use Rattle.std.proofs.lemmas.Bool.Decides.{nat_tests}
use Rattle.cl_types.specs.AscendingLaws.{found_at_place, found_in_gap}
use Rattle.cluster_objects.proofs.Puts.{put_longer, put_as_long}
use Rattle.cluster_objects.proofs.kinds.is_full.Goals as goal

pub returns-in-Ok : goal.returns-in-Ok
returns-in-Ok g c =
    let p = rw c.key.ensures at c.in-Ok.ensures.found in
    let there = found_at_place (λ x. g.T.Key.Ord.cmp (g.T.Keyed.key x) (g.T.Keyed.key c.args.item.now)) c.args.items.now _ c.args.item.now p.within p.here p.before in
    let long = put_as_long (λ x. g.T.Key.Ord.cmp (g.T.Keyed.key x) (g.T.Keyed.key c.args.item.now)) c.args.item.now c.args.items.now _ there in
    rw long refl

pub returns-in-Err : goal.returns-in-Err
returns-in-Err g c =
    let p = rw c.key.ensures at c.in-Err.ensures.absent in
    let none = found_in_gap (λ x. g.T.Key.Ord.cmp (g.T.Keyed.key x) (g.T.Keyed.key c.args.item.now)) c.args.items.now _ p.within p.before p.after in
    let long = put_longer (λ x. g.T.Key.Ord.cmp (g.T.Keyed.key x) (g.T.Keyed.key c.args.item.now)) c.args.item.now c.args.items.now none in
    rw long (grind (arith, nat_tests))
