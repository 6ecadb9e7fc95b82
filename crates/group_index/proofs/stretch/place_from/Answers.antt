use Rattle.group_index.proofs.Stretches.{from_gap, from_place}
use Rattle.group_index.proofs.stretch.place_from.Goals as goal

pub returns-in-Ok-clause-after : goal.returns-in-Ok-clause-after
returns-in-Ok-clause-after g c = from_place g.T.Keyed.key g.met.T.Key.Ord.total c.args.key.now c.args.items.now c.requires c.in-Ok.i c.in-Ok.ensures.found

pub returns-in-Err-clause-after : goal.returns-in-Err-clause-after
returns-in-Err-clause-after g c = from_gap g.T.Keyed.key g.met.T.Key.Ord.total c.args.key.now c.args.items.now c.requires c.in-Err.i c.in-Err.ensures.absent
