use Rattle.std.proofs.Common.{◌≡◌, map, take}
use Rattle.held_maps.specs.Held.{maps_of}
use Rattle.agent_cache.specs.Standing.{standing}
use Rattle.agent_cache.proofs.states.standings_of.Given as goal

abbrev pub invariant-loop-r : goal.invariant-loop-r
invariant-loop-r l =
    l.out.items ≡ map (standing (maps_of l.held)) (take l.r-index l.rules)
