use Rattle.touched_names.proofs.Moved.{moved_groups_touch}
use Rattle.touched_names.proofs.laws.moved_groups_touch.Goals as goal

pub returns : goal.returns
returns c = moved_groups_touch
