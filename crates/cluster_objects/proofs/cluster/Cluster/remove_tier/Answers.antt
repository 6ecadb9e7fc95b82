use Rattle.std.proofs.Common.{◌≡◌, true, None, sym, subst}
use Rattle.cluster_objects.proofs.Keeping.{tier_removed}
use Rattle.cluster_types.specs.declared.change.Change.TheVariants.{Remove}
use Rattle.cluster_types.specs.declared.change.ObjectKey.TheVariants as key
use Rattle.cluster_types.specs.Cluster.{ClusterData, ClusterState, IsCluster}
use Rattle.cluster_types.specs.Tier.{TierData}
use Rattle.cluster_objects.specs.Apply.{Placed}
use Rattle.cluster_objects.specs.Refusals.{checks, first_refusal}
use Rattle.cluster_objects.proofs.cluster.Cluster.remove_tier.Goals as goal

pub invariant_of-self : goal.invariant_of-self
invariant_of-self c =
    let room = c.self.invariant.places in
    let none = subst (λ (s : ClusterState). first_refusal (checks s.cluster (Remove (key.Tier c.args.name))) ≡ None) (sym c.self.view_is) c.requires in
    let in_memory = c.self.inside in
    let before : ClusterData = record { nodes = in_memory.nodes.items; fixed = in_memory.fixed; namespaces = in_memory.namespaces.items; pods = in_memory.pods.pods; tiers = in_memory.tiers.items; policies = in_memory.policies.items; egresses = in_memory.egresses.items } in
    record {
      cluster = subst (λ (p : Placed TierData). IsCluster (record before { fixed = true; tiers = p.items })) c.remove_named-old.ensures.items (tier_removed before c.self.invariant.cluster c.args.name none);
      places = record {
        nodes = room.nodes;
        namespaces = room.namespaces;
        pods = room.pods;
        tiers = c.remove_named-old.ensures.places;
        policies = room.policies;
        egresses = room.egresses;
      };
    }
