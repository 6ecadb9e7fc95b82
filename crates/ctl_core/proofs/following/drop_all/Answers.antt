use Rattle.std.proofs.Common.{arith}
use Rattle.ctl_core.proofs.Counting.{held_here, in_use, used_less_by}
use Rattle.ctl_core.proofs.following.drop_all.Goals as goal

pub drop_group-requires : goal.drop_group-requires
drop_group-requires c =
    in_use c.g-item.result c.loop-g.index (held_here c.g-item.result c.args.groups.now c.loop-g.g-index c.args.index.now c.loop-g.index c.loop-g-test.true c.g-item.is c.requires c.loop-g.invariant)

pub loop-g-preserved : goal.loop-g-preserved
loop-g-preserved c =
    used_less_by c.g-item.result c.args.groups.now c.loop-g.g-index c.args.index.now c.loop-g.index c.drop_group.new.self c.loop-g-test.true c.g-item.is
    (held_here c.g-item.result c.args.groups.now c.loop-g.g-index c.args.index.now c.loop-g.index c.loop-g-test.true c.g-item.is c.requires c.loop-g.invariant)
    c.keeps_its_form.ensures c.drop_group.ensures.index c.drop_group.ensures.stands c.loop-g.invariant
