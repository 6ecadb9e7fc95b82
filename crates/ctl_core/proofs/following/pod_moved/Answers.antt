use Rattle.ctl_core.proofs.Counting.{is_moved}
use Rattle.ctl_core.proofs.following.pod_moved.Goals as goal

pub returns-clause-moved : goal.returns-clause-moved
returns-clause-moved c = is_moved c.args.c.now.cluster c.args.index.now c.pod_changed.new.self c.in_ok-changes.ensures.index c.in_ok-changes.ensures.stands
