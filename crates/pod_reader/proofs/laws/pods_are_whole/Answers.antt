use Rattle.std.proofs.Common.{codes}
use Rattle.json_fields.specs.Fields.{inner}
use Rattle.json_fields.specs.ValueLaws.{labels_ascend}
use Rattle.object_reader.specs.Nodes.{metadata_of, spec_of}
use Rattle.pod_reader.specs.Pods.{pod_labels, pod_value}
use Rattle.pod_reader.proofs.PodAddresses.{are_addresses}
use Rattle.pod_reader.proofs.SortedPorts.{ports_ascend}
use Rattle.pod_reader.proofs.laws.pods_are_whole.Goals as goal

pub returns : goal.returns
unfolding pod_value pod_labels
returns c d =
    record {
      pod = record { families = are_addresses d; ports_ascend = ports_ascend (spec_of d) };
      labels = labels_ascend (inner (codes "labels") (metadata_of d));
    }
