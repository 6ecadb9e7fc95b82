use Rattle.std.proofs.Common.{arith}
use Rattle.held_maps.proofs.RowEdits.{titles_up, after_without, titles_removed, objects_removed, objects_kept}
use Rattle.held_maps.proofs.rows.Rows.remove.Goals as goal

pub search-requires : goal.search-requires
search-requires g c =
    rw c.as_slice.ensures.value (titles_up g.T.Titled.title c.args.title.now c.args.self.now.titles.items c.args.self.now.objects.items c.requires.titles)

pub returns-in-Ok-clause-objects : goal.returns-in-Ok-clause-objects
returns-in-Ok-clause-objects g c =
    let p = rw c.as_slice.ensures.value at c.in-Ok.ensures.found in
    objects_removed g.T.Titled.title c.args.title.now c.args.self.now.titles.items c.args.self.now.objects.items c.requires.titles c.in-Ok.i p c.remove-in-Ok.new.self.items c.remove-in-Ok.ensures.items

pub returns-in-Ok-clause-rows : goal.returns-in-Ok-clause-rows
returns-in-Ok-clause-rows g c = λ more rows.
    let p = rw c.as_slice.ensures.value at c.in-Ok.ensures.found in
    let ts = c.args.self.now.titles.items in
    let xs = c.args.self.now.objects.items in
    record {
      titles = after_without g.T.Titled.title c.args.title.now ts xs c.requires.titles _ _
          (titles_removed g.T.Titled.title c.args.title.now ts xs c.requires.titles c.in-Ok.i p c.remove.new.self.items c.remove.ensures.items)
          (objects_removed g.T.Titled.title c.args.title.now ts xs c.requires.titles c.in-Ok.i p c.remove-in-Ok.new.self.items c.remove-in-Ok.ensures.items);
      title_places = omega (arith, rows.title_places, c.remove.ensures.len, c.remove.ensures.capacity);
      object_places = omega (arith, rows.object_places, c.remove-in-Ok.ensures.len, c.remove-in-Ok.ensures.capacity);
    }

pub returns-in_default-clause-objects : goal.returns-in_default-clause-objects
returns-in_default-clause-objects g c =
    let p = rw c.as_slice.ensures.value at c.in_default.ensures.absent in
    objects_kept g.T.Titled.title c.args.title.now c.args.self.now.titles.items c.args.self.now.objects.items c.requires.titles c.in_default.field-0 p
