use Rattle.cluster_objects.proofs.OneKind.{nodes_fixed}
use Rattle.cluster_objects.proofs.cluster.Cluster.fix_nodes.Goals as goal

pub invariant_of-self : goal.invariant_of-self
invariant_of-self c =
    let room = c.self.invariant.places in
    record {
      cluster = nodes_fixed _ c.self.invariant.cluster;
      places = record {
        nodes = room.nodes;
        namespaces = room.namespaces;
        pods = room.pods;
        tiers = room.tiers;
        policies = room.policies;
        egresses = room.egresses;
      };
    }
