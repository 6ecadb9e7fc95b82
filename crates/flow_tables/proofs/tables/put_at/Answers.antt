use Rattle.std.proofs.Common.{◌∙◌}
use Rattle.std.proofs.lemmas.Result.{on_ok_weaker}
use Rattle.flow_tables.proofs.Placed.{placed_either, places_ascend, written_at, written_placed, inserted_in, inserted_placed}
use Rattle.flow_tables.proofs.tables.put_at.Goals as goal

pub search-requires : goal.search-requires
search-requires c = rw c.as_slice.ensures.value (places_ascend _ _ c.requires.placed)

pub returns-in-Ok-clause-flows : goal.returns-in-Ok-clause-flows
returns-in-Ok-clause-flows c =
    let found = rw (c.as_slice.ensures.value, c.requires.place) at c.in-Ok.ensures.found in
    c.write_flow_at.ensures ∙ written_at _ _ c.requires.placed c.args.flow c.in-Ok.i c.requires.forward found

pub returns-in-Ok-clause-places : goal.returns-in-Ok-clause-places
returns-in-Ok-clause-places c =
    let found = rw (c.as_slice.ensures.value, c.requires.place) at c.in-Ok.ensures.found in
    rw (c.write_flow_at.ensures, c.requires.place) (written_placed _ _ c.requires.placed c.args.flow c.in-Ok.i c.requires.forward found)

pub returns-in-Err-clause-flows : goal.returns-in-Err-clause-flows
returns-in-Err-clause-flows c =
    let gap = rw (c.as_slice.ensures.value, c.requires.place) at c.in-Err.ensures.absent in
    on_ok_weaker c.insert_at.result (λ e. e.0 ∙ inserted_in _ _ c.requires.placed c.args.flow c.in-Err.i c.requires.forward gap) c.insert_at.ensures.ok

pub returns-in-Err-clause-places : goal.returns-in-Err-clause-places
returns-in-Err-clause-places c =
    let gap = rw (c.as_slice.ensures.value, c.requires.place) at c.in-Err.ensures.absent in
    placed_either c.insert_at.result c.requires.placed
    (inserted_placed _ _ c.requires.placed c.args.flow c.in-Err.i c.requires.forward gap)
    (rw c.requires.place at c.insert_at.ensures.ok) c.insert_at.ensures.err
