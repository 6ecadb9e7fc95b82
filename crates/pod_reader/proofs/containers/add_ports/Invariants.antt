use Rattle.std.proofs.Common.{◌≡◌, ◌++◌, map, drop}
use Rattle.serde_json.specs.View.{view}
use Rattle.pod_reader.specs.Containers.{ports_among}
use Rattle.pod_reader.proofs.containers.add_ports.Given as goal

-- the ports so far with those that are left are all of them
abbrev pub invariant-loop-entry : goal.invariant-loop-entry
invariant-loop-entry l =
    l.ports.items ++ ports_among (map view (drop l.entry-index l.entries)) ≡ l.fn.ports.items ++ ports_among (map view l.entries)
