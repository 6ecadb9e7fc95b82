use Rattle.std.proofs.Common.{◌≡◌, length}
use Rattle.cl_types.specs.declared.service.NamedPort.{NamedPort}
use Rattle.cl_types.specs.Ascending.{Ascends, sorted_by}
use Rattle.cluster_types.specs.Pod.{port_order}
use Rattle.pod_reader.proofs.SortedPorts.{sorted_onto}
use Rattle.pod_reader.proofs.entries.sorted_entries.Given as goal

-- what is left, put among what is sorted, is all
abbrev pub invariant-loop-port : goal.invariant-loop-port
invariant-loop-port l = record {
  taken : sorted_onto l.ports.items l.sorted.items ≡ sorted_by (λ (p : NamedPort). p) port_order l.initial.ports.items;
  ascends : Ascends (λ (p : NamedPort). p) port_order l.sorted.items;
}

abbrev pub decreases-loop-port : goal.decreases-loop-port
decreases-loop-port l = length l.ports.items
