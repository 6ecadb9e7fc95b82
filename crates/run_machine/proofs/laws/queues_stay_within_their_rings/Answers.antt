use Rattle.run_machine.proofs.Rings.{queues_stay}
use Rattle.run_machine.proofs.laws.queues_stay_within_their_rings.Goals as goal

pub returns : goal.returns
returns c = queues_stay
