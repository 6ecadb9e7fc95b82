use Rattle.std.proofs.Common.{List, sym, subst}
use Rattle.serde_json.specs.View.{view}
use Rattle.cl_types.specs.declared.service.NamedPort.{NamedPort}
use Rattle.cl_types.specs.Ascending.{Ascends}
use Rattle.cluster_types.specs.Pod.{AreAddresses, port_order}
use Rattle.object_reader.specs.Nodes.{spec_of}
use Rattle.pod_reader.proofs.PodAddresses.{are_addresses}
use Rattle.pod_reader.proofs.SortedPorts.{ports_ascend}
use Rattle.pod_reader.proofs.pods.pod_with.Goals as goal

pub invariant_of-result : goal.invariant_of-result
invariant_of-result c =
    record {
      families = subst AreAddresses (sym c.requires.addresses) (are_addresses (view c.args.object.now));
      ports_ascend = subst (λ (ports : List NamedPort). Ascends (λ (p : NamedPort). p) port_order ports) (sym c.requires.ports) (ports_ascend (spec_of (view c.args.object.now)));
    }
