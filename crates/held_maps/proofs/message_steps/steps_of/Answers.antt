use Rattle.std.proofs.Common.{sym, ◌∙◌}
use Rattle.held_maps.specs.Held.{maps_of, map_on}
use Rattle.held_maps.specs.Steps.{step_of, steps_of}
use Rattle.held_maps.proofs.StepLists.{with_step}
use Rattle.held_maps.proofs.message_steps.steps_of.Goals as goal

pub loop-change-preserved : goal.loop-change-preserved
loop-change-preserved c =
    let held = map_on c.args.s (maps_of c.args.held.now) in
    with_step (step_of c.args.s held) c.loop-change.steps.items c.push_step.new.steps.items (steps_of c.args.s held c.args.changes) c.loop-change.changes c.pop.new.self.items c.in-Some.change _
    c.loop-change.invariant (sym c.vec_mut.ensures.value ∙ c.in-Some.ensures.items) c.in_ok-step_of.ensures c.in_ok-push_step.ensures
