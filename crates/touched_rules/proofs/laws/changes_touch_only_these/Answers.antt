use Rattle.touched_rules.proofs.OnlyTouched.{touch_only}
use Rattle.touched_rules.proofs.laws.changes_touch_only_these.Goals as goal

pub returns : goal.returns
returns c = touch_only
