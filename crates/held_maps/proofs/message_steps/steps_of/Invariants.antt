use Rattle.std.proofs.Common.{◌≡◌, ◌++◌, length}
use Rattle.held_maps.specs.Held.{maps_of, map_on}
use Rattle.held_maps.specs.Steps.{steps_of}
use Rattle.held_maps.proofs.message_steps.steps_of.Given as goal

-- taken from the end: the steps of what was taken stand first
abbrev pub invariant-loop-change : goal.invariant-loop-change
invariant-loop-change l =
    l.steps.items ++ steps_of l.s (map_on l.s (maps_of l.held)) l.changes ≡ steps_of l.s (map_on l.s (maps_of l.held)) l.fn.changes

abbrev pub decreases-loop-change : goal.decreases-loop-change
decreases-loop-change l = length l.changes
