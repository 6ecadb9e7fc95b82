use Rattle.std.proofs.Common.{◌≡◌, ◌++◌, take}
use Rattle.std.specs.List.{flat_map}
use Rattle.watch_streams.specs.InForce.{ports_named}
use Rattle.agent_cache.proofs.ports.push_members.Given as goal

abbrev pub invariant-loop-m : goal.invariant-loop-m
invariant-loop-m l =
    l.out.items ≡ l.initial.out.items ++ flat_map (ports_named l.names) (take l.m-index l.members)
