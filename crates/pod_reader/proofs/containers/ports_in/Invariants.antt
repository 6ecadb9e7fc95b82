use Rattle.std.proofs.Common.{◌≡◌, ◌++◌, map, drop}
use Rattle.serde_json.specs.View.{view}
use Rattle.pod_reader.specs.Containers.{ports_in}
use Rattle.pod_reader.proofs.containers.ports_in.Given as goal

-- the ports so far with those of the containers that are left are all of them
abbrev pub invariant-loop-container : goal.invariant-loop-container
invariant-loop-container l =
    l.ports.items ++ ports_in (map view (drop l.container-index l.containers)) ≡ ports_in (map view l.containers)
