use Rattle.std.proofs.Common.{sym, ap, subst, ◌∙◌, arith}
use Rattle.cl_types.specs.AscendingLaws.{put_at_place, put_in_gap}
use Rattle.cl_types.specs.Ascending.{IsGap, IsPlace}
use Rattle.group_index.specs.Settled.{at_address}
use Rattle.group_index.proofs.Editing.{address_of}
use Rattle.group_index.proofs.moves.put_in_place.Goals as goal

pub search-requires : goal.search-requires
search-requires c = rw c.as_slice.ensures.value c.requires.ascends

pub returns-in-Ok-clause-items : goal.returns-in-Ok-clause-items
returns-in-Ok-clause-items c =
    let p = subst (λ a. IsPlace (at_address a) c.args.members.now.items c.in-Ok.i) (ap address_of c.m.view_is) (rw c.as_slice.ensures.value at c.in-Ok.ensures.found) in
    sym (put_at_place (at_address c.args.m.address) c.args.m c.args.members.now.items _ p.within p.here p.before)

pub returns-in-Err-clause-items : goal.returns-in-Err-clause-items
returns-in-Err-clause-items c =
    let p = subst (λ a. IsGap (at_address a) c.args.members.now.items c.in-Err.i) (ap address_of c.m.view_is) (rw c.as_slice.ensures.value at c.in-Err.ensures.absent) in
    let done = c.insert.ensures.succeeds (omega (arith, c.requires.places)) in
    (rw done at c.insert.ensures.items) ∙ sym (put_in_gap (at_address c.args.m.address) c.args.m c.args.members.now.items _ p.within p.before p.after)
