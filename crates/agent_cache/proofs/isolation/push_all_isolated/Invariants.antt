use Rattle.std.proofs.Common.{◌≡◌, ◌++◌, map, take}
use Rattle.std.specs.List.{flat_map}
use Rattle.held_maps.specs.Held.{maps_of}
use Rattle.watch_streams.specs.InForce.{isolating_groups, member_address, members_in}
use Rattle.agent_cache.proofs.isolation.push_all_isolated.Given as goal

abbrev pub invariant-loop-policy : goal.invariant-loop-policy
invariant-loop-policy l =
    l.out.items ≡ l.initial.out.items ++ map member_address (members_in (maps_of l.held).applied (flat_map (isolating_groups l.dir) (take l.policy-index l.policies)))
