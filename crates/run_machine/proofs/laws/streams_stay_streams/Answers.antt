use Rattle.run_machine.proofs.Changing.{told_lead}
use Rattle.run_machine.proofs.Cutting.{cut_lead}
use Rattle.run_machine.proofs.Rejoining.{rejoined_lead}
use Rattle.run_machine.proofs.laws.streams_stay_streams.Goals as goal

pub returns : goal.returns
returns c = record { told = told_lead; rejoined = rejoined_lead; cut = cut_lead }
