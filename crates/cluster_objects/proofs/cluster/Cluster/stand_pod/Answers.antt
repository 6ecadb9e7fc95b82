use Rattle.std.proofs.Common.{sym, subst}
use Rattle.cluster_types.specs.declared.change.Object.TheVariants as object
use Rattle.cluster_objects.specs.Changes.{stood_again}
use Rattle.cluster_types.specs.Cluster.{ClusterState, IsCluster}
use Rattle.cluster_objects.proofs.cluster.Cluster.stand_pod.Goals as goal

pub invariant_of-self : goal.invariant_of-self
invariant_of-self c =
    let room = c.self.invariant.places in
    let stood = subst (λ (s : ClusterState). IsCluster (stood_again s.cluster (object.Pod c.args.pod) c.args.fixed)) (sym c.self.view_is) c.requires.cluster in
    record {
      cluster = rw c.restore.ensures.items stood;
      places = record {
        nodes = room.nodes;
        namespaces = room.namespaces;
        pods = c.restore.ensures.places;
        tiers = room.tiers;
        policies = room.policies;
        egresses = room.egresses;
      };
    }
