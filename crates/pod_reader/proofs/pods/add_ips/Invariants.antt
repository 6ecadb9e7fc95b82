use Rattle.std.proofs.Common.{◌≡◌, ◌++◌, map, drop}
use Rattle.serde_json.specs.View.{view}
use Rattle.pod_reader.specs.Pods.{ip_of}
use Rattle.pod_reader.proofs.pods.add_ips.Given as goal

-- the texts so far with those that are left are all of them
abbrev pub invariant-loop-item : goal.invariant-loop-item
invariant-loop-item l = l.texts.items ++ map ip_of (map view (drop l.item-index l.items)) ≡ l.fn.texts.items ++ map ip_of (map view l.items)
