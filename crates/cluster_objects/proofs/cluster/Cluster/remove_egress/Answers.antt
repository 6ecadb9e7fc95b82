use Rattle.cluster_objects.proofs.Keeping.{egress_removed}
use Rattle.cluster_objects.proofs.cluster.Cluster.remove_egress.Goals as goal

pub invariant_of-self : goal.invariant_of-self
invariant_of-self c =
    let room = c.self.invariant.places in
    record {
      cluster = rw c.remove-old.ensures.items (egress_removed _ c.self.invariant.cluster c.args.name);
      places = record {
        nodes = room.nodes;
        namespaces = room.namespaces;
        pods = room.pods;
        tiers = room.tiers;
        policies = room.policies;
        egresses = c.remove-old.ensures.places;
      };
    }
