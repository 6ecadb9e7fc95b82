use Rattle.std.proofs.Common.{◌≡◌, ◌++◌, map, take}
use Rattle.held_maps.specs.Held.{maps_of}
use Rattle.watch_streams.specs.InForce.{egress_group, member_address, members_in}
use Rattle.agent_cache.proofs.egresses.push_all_pods.Given as goal

abbrev pub invariant-loop-egress : goal.invariant-loop-egress
invariant-loop-egress l =
    l.out.items ≡ l.initial.out.items ++ map member_address (members_in (maps_of l.held).applied (map egress_group (take l.egress-index l.egresses)))
