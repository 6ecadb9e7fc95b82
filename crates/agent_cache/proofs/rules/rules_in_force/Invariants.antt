use Rattle.std.proofs.Common.{filter, take}
use Rattle.held_maps.specs.Held.{maps_of}
use Rattle.watch_streams.specs.HeldEvaluation.{is_complete}
use Rattle.watch_streams.specs.InForce.{ArePartsOf}
use Rattle.agent_cache.proofs.rules.rules_in_force.Given as goal

abbrev pub invariant-loop-r : goal.invariant-loop-r
invariant-loop-r l =
    ArePartsOf (maps_of l.held) (filter (λ x. is_complete (maps_of l.held) x.policy x.rule) (take l.r-index l.rules)) l.parts.items
