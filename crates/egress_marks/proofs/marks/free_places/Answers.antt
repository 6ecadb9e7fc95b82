use Rattle.std.proofs.Common.{◌<◌, length, set, get_or, ap, ◌∙◌, cond, None, Option, arith}
use Rattle.std.proofs.lemmas.List.Edits.{map_over_more}
use Rattle.std.proofs.lemmas.List.{get_or_default}
use Rattle.cl_types.specs.declared.addr.Addr.{Addr}
use Rattle.egress_marks.specs.Places.{is_held_by}
use Rattle.egress_marks.proofs.marks.free_places.Goals as goal

pub loop-place-preserved : goal.loop-place-preserved
loop-place-preserved c =
    let xs = c.args.places.now.items in
    let items = c.loop-place.place-items in
    let i = c.loop-place.place-index in
    let f = λ (place : Option Addr). cond (is_held_by c.args.a place) None place in
    let within : i < length xs = omega (arith, ap length c.deref_mut-place-items.ensures.value) in
    let inside : i < length items = omega arith in
    let x = get_or items i None in
    ap (set items i) (c.given_back.ensures ∙ ap f (get_or_default items i _ None inside)) ∙ map_over_more f xs items i x within c.loop-place.invariant (get_or_default items i None x inside)
