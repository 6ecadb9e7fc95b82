use Rattle.cl_types.specs.EqualityLaws.{is_same-decided}
use Rattle.group_index.specs.declared.member.Member as member
use Rattle.group_index.proofs.change.is_same.Goals as goal

pub returns : goal.returns
returns c = is_same-decided member.the_code c.args.a.now c.args.b.now c.same.result c.same.ensures
