use Rattle.object_reader.proofs.WholeObjects.{egresses_are, pooled_are}
use Rattle.object_reader.proofs.laws.egresses_are_whole.Goals as goal

pub returns : goal.returns
returns c = record { plain = egresses_are; pooled = pooled_are }
