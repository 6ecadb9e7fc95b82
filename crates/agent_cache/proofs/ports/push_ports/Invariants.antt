use Rattle.std.proofs.Common.{◌≡◌, ◌++◌, filter, map, take}
use Rattle.watch_streams.specs.InForce.{has_name, port_at}
use Rattle.agent_cache.proofs.ports.push_ports.Given as goal

abbrev pub invariant-loop-port : goal.invariant-loop-port
invariant-loop-port l =
    l.out.items ≡ l.initial.out.items ++ map (port_at l.address) (filter (has_name l.name) (take l.port-index l.ports))
