use Rattle.cluster_objects.proofs.ChangeLaws.{undo_takes_back, undoes_take_back}
use Rattle.cluster_objects.proofs.laws.undoes_take_back.Goals as goal

pub returns : goal.returns
returns c = record { one = undo_takes_back; all = undoes_take_back }
