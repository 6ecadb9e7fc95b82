use Rattle.cluster_types.proofs.FirstRule.{first_among, first_least, first_none}
use Rattle.cluster_types.proofs.steps.first_rule_is_least.Goals as goal

pub returns : goal.returns
returns g c = record { among = first_among g.R.Ruling.rule_key; least = first_least g.R.Ruling.rule_key; none = first_none g.R.Ruling.rule_key }
