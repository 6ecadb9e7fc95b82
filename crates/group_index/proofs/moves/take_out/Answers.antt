use Rattle.std.proofs.Common.{sym, ◌∙◌}
use Rattle.cl_types.specs.Addr.{addr_order_total}
use Rattle.cl_types.specs.AscendingLaws.{without_at_place, without_in_gap}
use Rattle.group_index.specs.Settled.{at_address}
use Rattle.group_index.proofs.Editing.{address_of}
use Rattle.group_index.proofs.moves.take_out.Goals as goal

pub search-requires : goal.search-requires
search-requires c = rw c.as_slice.ensures.value c.requires

pub returns-in-Ok-clause-items : goal.returns-in-Ok-clause-items
returns-in-Ok-clause-items c =
    let p = rw c.as_slice.ensures.value at c.in-Ok.ensures.found in
    c.remove.ensures.items ∙ sym (without_at_place address_of addr_order_total c.args.a.now c.args.members.now.items _ c.requires p.within p.here p.before)

pub returns-in_default-clause-items : goal.returns-in_default-clause-items
returns-in_default-clause-items c =
    let p = rw c.as_slice.ensures.value at c.in_default.ensures.absent in
    sym (without_in_gap (at_address c.args.a.now) c.args.members.now.items _ p.within p.before p.after)
