use Rattle.group_index.proofs.Concerns.{answered, member_if, no_member}
use Rattle.group_index.proofs.settle.member_at.Goals as goal

pub returns-in-Some : goal.returns-in-Some
returns-in-Some c = answered c.member_if_in.result _ _ (member_if c.args.c.now.cluster c.args.g.now c.args.a c.in-Some.pod.now c.in-Some.ensures.alone) c.member_if_in.ensures

pub returns-in-None : goal.returns-in-None
returns-in-None c = no_member c.args.c.now.cluster c.args.g.now c.args.a c.in-None.ensures.alone
