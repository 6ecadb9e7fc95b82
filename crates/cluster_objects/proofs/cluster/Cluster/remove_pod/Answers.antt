use Rattle.cluster_objects.proofs.Keeping.{pod_removed}
use Rattle.cluster_objects.proofs.cluster.Cluster.remove_pod.Goals as goal

pub invariant_of-self : goal.invariant_of-self
invariant_of-self c =
    let room = c.self.invariant.places in
    record {
      cluster = rw c.remove-old.ensures.items (pod_removed _ c.self.invariant.cluster c.args.key);
      places = record {
        nodes = room.nodes;
        namespaces = room.namespaces;
        pods = c.remove-old.ensures.places;
        tiers = room.tiers;
        policies = room.policies;
        egresses = room.egresses;
      };
    }
