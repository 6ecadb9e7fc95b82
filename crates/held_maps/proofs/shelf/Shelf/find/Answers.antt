use Rattle.std.proofs.Common.{get_or, sym, ◌∙◌, ap, Some}
use Rattle.cl_types.specs.AscendingLaws.{found_at_place, found_in_gap}
use Rattle.cl_types.specs.Text.{text_order}
use Rattle.held_maps.proofs.Shelves.{placed, gap, titles_ascend}
use Rattle.held_maps.proofs.shelf.Shelf.find.Goals as goal

pub search-requires : goal.search-requires
search-requires g c =
    rw (c.as_slice.ensures.value, c.self.invariant.same) (titles_ascend g.T.Titled.title text_order c.self.inside.objects c.self.invariant.ascend)

pub returns-in-Ok : goal.returns-in-Ok
returns-in-Ok g c =
    let p = rw (c.as_slice.ensures.value, c.self.invariant.same) at c.in-Ok.ensures.found in
    let q = placed g.T.Titled.title (λ t. text_order t c.args.title.now) c.self.inside.objects c.in-Ok.i p in
    rw (← c.self.view_is)
    (ap Some (c.index-as_slice-i.is ∙ ap (λ l. get_or l c.in-Ok.i c.index-as_slice-i.result) c.as_slice-in-Ok.ensures)
    ∙ sym (found_at_place (λ x. text_order (g.T.Titled.title x) c.args.title.now) c.self.inside.objects c.in-Ok.i c.index-as_slice-i.result q.within q.here q.before))

pub returns-in-Err : goal.returns-in-Err
returns-in-Err g c =
    let p = rw (c.as_slice.ensures.value, c.self.invariant.same) at c.in-Err.ensures.absent in
    let q = gap g.T.Titled.title (λ t. text_order t c.args.title.now) c.self.inside.objects c.in-Err.field-0 p in
    rw (← c.self.view_is) (sym (found_in_gap (λ x. text_order (g.T.Titled.title x) c.args.title.now) c.self.inside.objects c.in-Err.field-0 q.within q.before q.after))
