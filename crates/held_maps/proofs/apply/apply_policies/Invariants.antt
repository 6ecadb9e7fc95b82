use Rattle.std.proofs.Common.{◌≡◌, vec_len}
use Rattle.held_maps.specs.Held.{policy_title, egress_title}
use Rattle.held_maps.specs.Rows.{HasRows}
use Rattle.held_maps.specs.Steps.{policies_after_steps, egresses_after_steps}
use Rattle.held_maps.proofs.apply.apply_policies.Given as goal

abbrev pub invariant-loop-step : goal.invariant-loop-step
invariant-loop-step l = record {
  policy_rows : HasRows policy_title (vec_len l.steps) l.policies;
  egress_rows : HasRows egress_title (vec_len l.steps) l.egresses;
  policies : policies_after_steps l.steps.items l.policies.objects.items ≡ policies_after_steps l.fn.steps.items l.fn.policies.objects.items;
  egresses : egresses_after_steps l.steps.items l.egresses.objects.items ≡ egresses_after_steps l.fn.steps.items l.fn.egresses.objects.items;
}

abbrev pub decreases-loop-step : goal.decreases-loop-step
decreases-loop-step l = vec_len l.steps
