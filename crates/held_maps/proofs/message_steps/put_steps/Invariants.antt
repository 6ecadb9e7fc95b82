use Rattle.std.proofs.Common.{◌≡◌, ◌++◌, length}
use Rattle.held_maps.specs.Steps.{put_steps}
use Rattle.held_maps.proofs.message_steps.put_steps.Given as goal

-- taken from the end: the steps of what was taken stand first
abbrev pub invariant-loop-object : goal.invariant-loop-object
invariant-loop-object l = l.steps.items ++ put_steps l.s l.objects ≡ put_steps l.s l.fn.objects

abbrev pub decreases-loop-object : goal.decreases-loop-object
decreases-loop-object l = length l.objects
