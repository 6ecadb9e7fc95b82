use Rattle.std.proofs.Common.{not, ap}
use Rattle.cl_types.specs.EqualityLaws.{is_same-decided}
use Rattle.agent_cache.proofs.differences.differs.Goals as goal

pub returns : goal.returns
returns g c = ap not (is_same-decided g.row.T.coded c.args.a.now c.args.b.now c.same.result c.same.ensures)
