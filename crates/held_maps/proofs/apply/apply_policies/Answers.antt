use Rattle.std.proofs.Common.{◌≡◌, ◌+◌, vec_len, sym, ap, subst, ◌∙◌}
use Rattle.held_maps.specs.Held.{policy_title, egress_title}
use Rattle.held_maps.specs.Rows.{HasRows}
use Rattle.held_maps.specs.Steps.{policies_after_steps, egresses_after_steps}
use Rattle.held_maps.proofs.StepLists.{taken_policy, taken_egress}
use Rattle.held_maps.proofs.apply.apply_policies.Goals as goal

pub loop-step-preserved : goal.loop-step-preserved
loop-step-preserved c =
    let fewer : vec_len c.loop-step.steps ≡ vec_len c.pop.new.self + 1 = sym c.in-Some.ensures.len in
    record {
      policy_rows = c.apply_policy.ensures.policy_rows (vec_len c.pop.new.self) (subst (λ n. HasRows policy_title n c.loop-step.policies) fewer c.loop-step.invariant.policy_rows);
      egress_rows = c.apply_policy.ensures.egress_rows (vec_len c.pop.new.self) (subst (λ n. HasRows egress_title n c.loop-step.egresses) fewer c.loop-step.invariant.egress_rows);
      policies = ap (policies_after_steps c.pop.new.self.items) c.apply_policy.ensures.policies ∙ sym (taken_policy c.pop.new.self.items c.in-Some.step c.loop-step.policies.objects.items)
          ∙ ap (λ steps. policies_after_steps steps c.loop-step.policies.objects.items) (sym c.in-Some.ensures.items) ∙ c.loop-step.invariant.policies;
      egresses = ap (egresses_after_steps c.pop.new.self.items) c.apply_policy.ensures.egresses ∙ sym (taken_egress c.pop.new.self.items c.in-Some.step c.loop-step.egresses.objects.items)
          ∙ ap (λ steps. egresses_after_steps steps c.loop-step.egresses.objects.items) (sym c.in-Some.ensures.items) ∙ c.loop-step.invariant.egresses;
    }
