use Rattle.std.proofs.Common.{arith}
use Rattle.held_maps.proofs.places.Places.into_rows.Goals as goal

pub returns : goal.returns
returns g c = λ count fewer.
    let room = c.self.invariant in
    record {
      no_titles = room.no_titles;
      no_objects = room.no_objects;
      title_places = omega (arith, fewer, room.title_places, c.self.view_is);
      object_places = omega (arith, fewer, room.object_places, c.self.view_is);
    }
