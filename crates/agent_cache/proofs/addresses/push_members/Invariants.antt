use Rattle.std.proofs.Common.{◌≡◌, ◌++◌, map, take}
use Rattle.watch_streams.specs.InForce.{member_address}
use Rattle.agent_cache.proofs.addresses.push_members.Given as goal

abbrev pub invariant-loop-m : goal.invariant-loop-m
invariant-loop-m l =
    l.out.items ≡ l.initial.out.items ++ map member_address (take l.m-index l.members)
