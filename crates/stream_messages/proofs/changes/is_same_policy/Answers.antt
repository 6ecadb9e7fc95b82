use Rattle.cl_types.specs.EqualityLaws.{is_same-decided}
use Rattle.watch_streams.specs.declared.net.NetPolicy as policy
use Rattle.stream_messages.proofs.changes.is_same_policy.Goals as goal

pub returns : goal.returns
returns c = is_same-decided policy.the_code c.args.a.now c.args.b.now c.same.result c.same.ensures
