use Rattle.std.proofs.Common.{length}
use Rattle.group_index.proofs.moves.Moves.settle.Goals as goal

pub edit_all-requires-clause-places : goal.edit_all-requires-clause-places
edit_all-requires-clause-places c = c.move_all.ensures.places (length c.args.self.edits.items) c.requires.places
