use Rattle.touched_names.proofs.Spans.{members_tell}
use Rattle.touched_names.proofs.laws.members_tell_spans.Goals as goal

pub returns : goal.returns
returns c = members_tell
