use Rattle.std.proofs.Common.{arith}
use Rattle.group_index.proofs.moves.edit_at.Goals as goal

pub returns-in-None-clause-places : goal.returns-in-None-clause-places
returns-in-None-clause-places c = λ more h. c.take_out.ensures.places more (omega (arith, h))
