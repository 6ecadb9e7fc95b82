use Rattle.std.proofs.Common.{◌≡◌, ◌+◌, vec_len, sym, ap, subst, ◌∙◌}
use Rattle.watch_streams.specs.Names.{object_text}
use Rattle.held_maps.specs.Rows.{HasRows}
use Rattle.held_maps.specs.Steps.{after_steps}
use Rattle.held_maps.proofs.StepLists.{taken_step}
use Rattle.held_maps.proofs.apply.apply_all.Goals as goal

pub loop-step-preserved : goal.loop-step-preserved
loop-step-preserved c =
    let fewer : vec_len c.loop-step.steps ≡ vec_len c.pop.new.self + 1 = sym c.in-Some.ensures.len in
    record {
      rows = c.apply.ensures.rows (vec_len c.pop.new.self) (subst (λ n. HasRows object_text n c.loop-step.rows) fewer c.loop-step.invariant.rows);
      left = ap (after_steps c.pop.new.self.items) c.apply.ensures.objects ∙ sym (taken_step c.pop.new.self.items c.in-Some.step c.loop-step.rows.objects.items)
          ∙ ap (λ steps. after_steps steps c.loop-step.rows.objects.items) (sym c.in-Some.ensures.items) ∙ c.loop-step.invariant.left;
    }
