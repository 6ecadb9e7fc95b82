use Rattle.cluster_objects.proofs.Marks.{marks_suffice as suffices}
use Rattle.cluster_objects.proofs.laws.marks_suffice.Goals as goal

pub returns : goal.returns
returns _ c node is = suffices c node is.marks
