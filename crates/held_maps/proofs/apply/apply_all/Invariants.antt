use Rattle.std.proofs.Common.{◌≡◌, vec_len}
use Rattle.watch_streams.specs.Names.{object_text}
use Rattle.held_maps.specs.Rows.{HasRows}
use Rattle.held_maps.specs.Steps.{after_steps}
use Rattle.held_maps.proofs.apply.apply_all.Given as goal

abbrev pub invariant-loop-step : goal.invariant-loop-step
invariant-loop-step l = record {
  rows : HasRows object_text (vec_len l.steps) l.rows;
  left : after_steps l.steps.items l.rows.objects.items ≡ after_steps l.fn.steps.items l.fn.rows.objects.items;
}

abbrev pub decreases-loop-step : goal.decreases-loop-step
decreases-loop-step l = vec_len l.steps
