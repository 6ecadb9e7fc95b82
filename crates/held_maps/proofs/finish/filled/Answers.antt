use Rattle.held_maps.proofs.finish.filled.Goals as goal

pub begin-requires : goal.begin-requires
begin-requires g c = c.into_rows-rows.ensures _ c.requires
