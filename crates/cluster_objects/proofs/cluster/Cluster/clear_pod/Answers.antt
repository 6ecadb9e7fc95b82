use Rattle.std.proofs.Common.{sym, subst}
use Rattle.cluster_types.specs.declared.change.ObjectKey.TheVariants as key
use Rattle.cluster_objects.specs.Changes.{cleared_again}
use Rattle.cluster_types.specs.Cluster.{ClusterState, IsCluster}
use Rattle.cluster_objects.proofs.cluster.Cluster.clear_pod.Goals as goal

pub invariant_of-self : goal.invariant_of-self
invariant_of-self c =
    let room = c.self.invariant.places in
    let cleared = subst (λ (s : ClusterState). IsCluster (cleared_again s.cluster (key.Pod c.args.key.now) c.args.fixed)) (sym c.self.view_is) c.requires.cluster in
    record {
      cluster = rw c.remove.ensures.items cleared;
      places = record {
        nodes = room.nodes;
        namespaces = room.namespaces;
        pods = c.remove.ensures.places;
        tiers = room.tiers;
        policies = room.policies;
        egresses = room.egresses;
      };
    }
