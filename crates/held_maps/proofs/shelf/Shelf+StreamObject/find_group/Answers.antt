use Rattle.std.proofs.Common.{ℕ, List, get_or, sym, ◌∙◌, ap, Some}
use Rattle.std.specs.declared.cmp.Ordering.{Ordering}
use Rattle.cl_types.specs.AscendingLaws.{found_at_place, found_in_gap}
use Rattle.cl_types.specs.Text.{text_order}
use Rattle.label_select.specs.Written.{group_text}
use Rattle.watch_streams.specs.Names.{object_text}
use Rattle.held_maps.proofs.Shelves.{placed, gap, titles_ascend}
use Rattle.held_maps.proofs.shelf.Shelf+StreamObject.find_group.Goals as goal

pub search_group-requires : goal.search_group-requires
search_group-requires c =
    rw (c.as_slice.ensures.value, c.self.invariant.same) (titles_ascend object_text text_order c.self.inside.objects c.self.invariant.ascend)

pub returns-in-Ok : goal.returns-in-Ok
returns-in-Ok c =
    let at : List ℕ → Ordering = λ t. text_order t (group_text c.args.g.now) in
    let p = rw (c.as_slice.ensures.value, c.self.invariant.same) at c.in-Ok.ensures.found in
    let q = placed object_text at c.self.inside.objects c.in-Ok.i p in
    rw (← c.self.view_is)
    (ap Some (c.index-as_slice-i.is ∙ ap (λ l. get_or l c.in-Ok.i c.index-as_slice-i.result) c.as_slice-in-Ok.ensures)
    ∙ sym (found_at_place (λ x. at (object_text x)) c.self.inside.objects c.in-Ok.i c.index-as_slice-i.result q.within q.here q.before))

pub returns-in-Err : goal.returns-in-Err
returns-in-Err c =
    let at : List ℕ → Ordering = λ t. text_order t (group_text c.args.g.now) in
    let p = rw (c.as_slice.ensures.value, c.self.invariant.same) at c.in-Err.ensures.absent in
    let q = gap object_text at c.self.inside.objects c.in-Err.field-0 p in
    rw (← c.self.view_is) (sym (found_in_gap (λ x. at (object_text x)) c.self.inside.objects c.in-Err.field-0 q.within q.before q.after))
