use Rattle.std.proofs.Common.{◌≡◌, ◌++◌, map, take}
use Rattle.held_maps.specs.Held.{maps_of, map_on}
use Rattle.watch_streams.specs.InForce.{member_address, members_in}
use Rattle.agent_cache.proofs.addresses.push_groups.Given as goal

abbrev pub invariant-loop-g : goal.invariant-loop-g
invariant-loop-g l =
    l.out.items ≡ l.initial.out.items ++ map member_address (members_in (map_on l.s (maps_of l.held)) (take l.g-index l.groups))
