use Rattle.flow_pipeline.proofs.VisitLaws.{visits-ascend}
use Rattle.flow_pipeline.proofs.laws.walks_lead_on.Goals as goal

pub returns : goal.returns
returns c = visits-ascend
