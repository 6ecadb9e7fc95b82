use Rattle.std.proofs.Common.{◌≡◌, ◌++◌, length, sym, ap, ◌∙◌, arith}
use Rattle.watch_streams.specs.Net.{ascending_members}
use Rattle.watch_streams.proofs.MemberEdits.{insert_more, insert_done}
use Rattle.watch_streams.proofs.member_sets.insert_all.Goals as goal

pub loop-member-preserved : goal.loop-member-preserved
loop-member-preserved c = record {
  ascend = c.in_ok-put.ensures.ascends;
  same = insert_more c.loop-member.added c.pop.new.self.items c.in-Some.member c.loop-member.members.items c.put.new.items.items (ascending_members (c.args.added ++ c.args.members.now.items))
      c.loop-member.invariant.ascend (sym c.vec_mut.ensures.value ∙ c.in-Some.ensures.items) c.in_ok-put.ensures.ok c.loop-member.invariant.same;
}

pub returns-clause-ok : goal.returns-clause-ok
returns-clause-ok c =
    let none : length c.loop-member.added ≡ 0 = omega (arith, (rw c.in_default.is at c.pop.ensures.cases).0, ap length c.vec_mut.ensures.value) in
    insert_done c.loop-member.added c.loop-member.members.items (ascending_members (c.args.added ++ c.args.members.now.items)) none c.loop-member.invariant.ascend c.loop-member.invariant.same
