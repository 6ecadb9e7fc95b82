use Rattle.std.proofs.Common.{refl}
use Rattle.agent_cache.proofs.Plans.{plan_of}
use Rattle.agent_cache.proofs.cache.planned.Goals as goal

pub returns : goal.returns
returns c = λ s m cache leads ready. plan_of s m cache c.args.leads _ leads ready refl refl
