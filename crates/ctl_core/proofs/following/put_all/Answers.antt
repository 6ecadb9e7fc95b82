use Rattle.std.proofs.Common.{arith}
use Rattle.ctl_core.proofs.Counting.{used_more}
use Rattle.ctl_core.proofs.following.put_all.Goals as goal

pub loop-g-preserved : goal.loop-g-preserved
loop-g-preserved c =
    used_more c.args.c.now.cluster c.g-item.result c.args.groups.now c.loop-g.g-index c.args.index.now c.loop-g.index c.put_group.new.self c.loop-g-test.true c.g-item.is
    c.group_form.ensures c.in_ok-put_group.ensures.ok c.in_ok-put_group.ensures.stands c.loop-g.invariant
