use Rattle.std.proofs.Common.{◌∙◌, arith}
use Rattle.flow_tables.proofs.Placed.{places_ascend, length_of, removed_at, removed_placed, absent_in}
use Rattle.flow_tables.proofs.tables.remove_at.Goals as goal

pub search-requires : goal.search-requires
search-requires c = rw c.as_slice.ensures.value (places_ascend _ _ c.requires)

pub remove_flow-requires : goal.remove_flow-requires
remove_flow-requires c =
    let found = rw c.as_slice.ensures.value at c.in-Ok.ensures.found in
    omega (arith, found.within, length_of _ _ c.requires)

pub returns-in-Ok-clause-flows : goal.returns-in-Ok-clause-flows
returns-in-Ok-clause-flows c =
    let found = rw c.as_slice.ensures.value at c.in-Ok.ensures.found in
    c.remove_flow.ensures ∙ removed_at _ _ c.requires c.args.place.now c.in-Ok.i found

pub returns-in-Ok-clause-places : goal.returns-in-Ok-clause-places
returns-in-Ok-clause-places c =
    let found = rw c.as_slice.ensures.value at c.in-Ok.ensures.found in
    rw (c.remove_flow.ensures, c.remove.ensures.items) (removed_placed _ _ c.requires c.args.place.now c.in-Ok.i found)

pub returns-in-Err-clause-flows : goal.returns-in-Err-clause-flows
returns-in-Err-clause-flows c =
    let gap = rw c.as_slice.ensures.value at c.in-Err.ensures.absent in
    absent_in _ _ c.requires c.args.place.now _ gap
