use Rattle.std.proofs.Common.{◌≡◌, ◌++◌, take}
use Rattle.watch_streams.specs.InForce.{ports_named}
use Rattle.agent_cache.proofs.ports.push_member.Given as goal

abbrev pub invariant-loop-name : goal.invariant-loop-name
invariant-loop-name l =
    l.out.items ≡ l.initial.out.items ++ ports_named (take l.name-index l.names) l.m
