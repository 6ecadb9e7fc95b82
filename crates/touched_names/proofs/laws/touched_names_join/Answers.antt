use Rattle.touched_names.proofs.Elsewhere.{names_join, nothing_at_first}
use Rattle.touched_names.proofs.laws.touched_names_join.Goals as goal

pub returns : goal.returns
returns c = record { nothing = nothing_at_first; both = names_join }
