use Rattle.touched_names.proofs.Placed.{nodes_alone, nothing_else}
use Rattle.touched_names.proofs.laws.tiers_and_nodes_touch_nothing.Goals as goal

pub returns : goal.returns
returns c = record { tiers = nothing_else; nodes = nodes_alone }
