use Rattle.std.proofs.Common.{arith}
use Rattle.held_maps.proofs.RowEdits.{titles_up, after_put, titles_set, objects_set, titles_inserted, objects_inserted}
use Rattle.held_maps.proofs.rows.Rows.put.Goals as goal

pub search-requires : goal.search-requires
search-requires g c =
    rw c.as_slice.ensures.value (titles_up g.T.Titled.title c.args.title c.args.self.now.titles.items c.args.self.now.objects.items c.requires.rows.titles)

pub returns-in-Ok-clause-objects : goal.returns-in-Ok-clause-objects
returns-in-Ok-clause-objects g c =
    let p = rw c.as_slice.ensures.value at c.in-Ok.ensures.found in
    objects_set g.T.Titled.title c.args.title c.args.self.now.titles.items c.args.self.now.objects.items c.requires.rows.titles c.args.object c.in-Ok.i c.requires.title p

pub returns-in-Ok-clause-rows : goal.returns-in-Ok-clause-rows
returns-in-Ok-clause-rows g c = λ more rows.
    let p = rw c.as_slice.ensures.value at c.in-Ok.ensures.found in
    let ts = c.args.self.now.titles.items in
    let xs = c.args.self.now.objects.items in
    record {
      titles = after_put g.T.Titled.title c.args.title ts xs c.requires.rows.titles c.args.object _ _ c.requires.title
          (titles_set g.T.Titled.title c.args.title ts xs c.requires.rows.titles c.in-Ok.i p) (objects_set g.T.Titled.title c.args.title ts xs c.requires.rows.titles c.args.object c.in-Ok.i c.requires.title p);
      title_places = omega (arith, rows.title_places);
      object_places = omega (arith, rows.object_places);
    }

pub returns-in-Err-clause-objects : goal.returns-in-Err-clause-objects
returns-in-Err-clause-objects g c =
    objects_inserted g.T.Titled.title c.args.title c.args.self.now.titles.items c.args.self.now.objects.items c.requires.rows.titles c.args.object c.in-Err.i c.requires.title
    (rw c.as_slice.ensures.value at c.in-Err.ensures.absent) c.insert-in-Err.new.self.items _ c.insert-in-Err.ensures.items
    (c.insert-in-Err.ensures.succeeds (omega (arith, c.requires.rows.object_places)))

pub returns-in-Err-clause-rows : goal.returns-in-Err-clause-rows
returns-in-Err-clause-rows g c = λ more rows.
    let p = rw c.as_slice.ensures.value at c.in-Err.ensures.absent in
    let ts = c.args.self.now.titles.items in
    let xs = c.args.self.now.objects.items in
    let first = c.insert.ensures.succeeds (omega (arith, c.requires.rows.title_places)) in
    let done = c.insert-in-Err.ensures.succeeds (omega (arith, c.requires.rows.object_places)) in
    record {
      titles = after_put g.T.Titled.title c.args.title ts xs c.requires.rows.titles c.args.object _ _ c.requires.title
          (titles_inserted g.T.Titled.title c.args.title ts xs c.requires.rows.titles c.in-Err.i p c.insert.new.self.items _ c.insert.ensures.items first)
          (objects_inserted g.T.Titled.title c.args.title ts xs c.requires.rows.titles c.args.object c.in-Err.i c.requires.title p c.insert-in-Err.new.self.items _ c.insert-in-Err.ensures.items done);
      title_places = omega (arith, rows.title_places, rw first at c.insert.ensures.len, c.insert.ensures.capacity);
      object_places = omega (arith, rows.object_places, rw done at c.insert-in-Err.ensures.len, c.insert-in-Err.ensures.capacity);
    }
