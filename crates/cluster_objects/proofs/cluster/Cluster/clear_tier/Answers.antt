use Rattle.std.proofs.Common.{sym, subst}
use Rattle.cluster_types.specs.declared.change.ObjectKey.TheVariants as key
use Rattle.cluster_objects.specs.Changes.{cleared_again}
use Rattle.cluster_types.specs.Cluster.{ClusterData, ClusterState, IsCluster}
use Rattle.cluster_types.specs.Tier.{TierData}
use Rattle.cluster_objects.specs.Apply.{Placed}
use Rattle.cluster_objects.proofs.cluster.Cluster.clear_tier.Goals as goal

pub invariant_of-self : goal.invariant_of-self
invariant_of-self c =
    let room = c.self.invariant.places in
    let cleared = subst (λ (s : ClusterState). IsCluster (cleared_again s.cluster (key.Tier c.args.name.now) c.args.fixed)) (sym c.self.view_is) c.requires.cluster in
    let in_memory = c.self.inside in
    let before : ClusterData = record { nodes = in_memory.nodes.items; fixed = in_memory.fixed; namespaces = in_memory.namespaces.items; pods = in_memory.pods.pods; tiers = in_memory.tiers.items; policies = in_memory.policies.items; egresses = in_memory.egresses.items } in
    record {
      cluster = subst (λ (p : Placed TierData). IsCluster (record before { fixed = c.args.fixed; tiers = p.items })) c.remove_named.ensures.items cleared;
      places = record {
        nodes = room.nodes;
        namespaces = room.namespaces;
        pods = room.pods;
        tiers = c.remove_named.ensures.places;
        policies = room.policies;
        egresses = room.egresses;
      };
    }
