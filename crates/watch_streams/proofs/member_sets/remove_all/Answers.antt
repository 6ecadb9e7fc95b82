use Rattle.std.proofs.Common.{arith}
use Rattle.watch_streams.specs.Difference.{members_without}
use Rattle.watch_streams.proofs.MemberEdits.{remove_more, remove_done}
use Rattle.watch_streams.proofs.member_sets.remove_all.Goals as goal

pub loop-i-preserved : goal.loop-i-preserved
loop-i-preserved c = record {
  ascend = c.remove.ensures.ascends;
  same = remove_more c.args.removed.now c.loop-i.i c.index-removed-i.result c.loop-i.members.items c.remove.new.items.items (members_without c.args.members.now.items c.args.removed.now)
      (omega arith) c.index-removed-i.is c.remove.ensures.items c.loop-i.invariant.same;
}

pub returns : goal.returns
returns c =
    remove_done c.args.removed.now c.loop-i.i c.loop-i.members.items (members_without c.args.members.now.items c.args.removed.now) (omega arith) c.loop-i.invariant.same
