use Rattle.std.proofs.Common.{sym, ◌∙◌}
use Rattle.held_maps.specs.Steps.{settled_step, put_steps}
use Rattle.held_maps.proofs.StepLists.{with_step}
use Rattle.held_maps.proofs.message_steps.put_steps.Goals as goal

pub loop-object-preserved : goal.loop-object-preserved
loop-object-preserved c =
    with_step (settled_step c.args.s) c.loop-object.steps.items c.push_step.new.steps.items (put_steps c.args.s c.args.objects) c.loop-object.objects c.pop.new.self.items c.in-Some.object _
    c.loop-object.invariant (sym c.vec_mut.ensures.value ∙ c.in-Some.ensures.items) c.in_ok-settled_step.ensures c.in_ok-push_step.ensures
