use Rattle.std.proofs.Common.{◌≡◌, map, take}
use Rattle.held_maps.specs.Held.{maps_of}
use Rattle.watch_streams.specs.InForce.{held_choice}
use Rattle.agent_cache.proofs.egresses.choices_of.Given as goal

abbrev pub invariant-loop-pod : goal.invariant-loop-pod
invariant-loop-pod l =
    l.choices.items ≡ map (λ a. record { pod = a; now = held_choice l.node (maps_of l.held) a }) (take l.pod-index l.pods)
