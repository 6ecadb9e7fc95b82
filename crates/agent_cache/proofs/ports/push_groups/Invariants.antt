use Rattle.std.proofs.Common.{◌≡◌, ◌++◌, take}
use Rattle.std.specs.List.{flat_map}
use Rattle.held_maps.specs.Held.{maps_of, map_on}
use Rattle.watch_streams.specs.InForce.{members_in, ports_named}
use Rattle.agent_cache.proofs.ports.push_groups.Given as goal

abbrev pub invariant-loop-g : goal.invariant-loop-g
invariant-loop-g l =
    l.out.items ≡ l.initial.out.items ++ flat_map (ports_named l.names) (members_in (map_on l.s (maps_of l.held)) (take l.g-index l.groups))
