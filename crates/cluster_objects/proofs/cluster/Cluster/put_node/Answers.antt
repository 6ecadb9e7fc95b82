use Rattle.std.proofs.Common.{◌≡◌, None, sym, subst}
use Rattle.cluster_types.specs.declared.change.Change.TheVariants.{Put}
use Rattle.cluster_types.specs.declared.change.Object.TheVariants as object
use Rattle.cluster_types.specs.Cluster.{ClusterState}
use Rattle.cluster_objects.specs.Refusals.{checks, first_refusal}
use Rattle.cluster_objects.proofs.Keeping.{node_put}
use Rattle.cluster_objects.proofs.cluster.Cluster.put_node.Goals as goal

pub invariant_of-self-2 : goal.invariant_of-self-2
invariant_of-self-2 c =
    let room = c.self.invariant.places in
    let none = subst (λ (s : ClusterState). first_refusal (checks s.cluster (Put (object.Node c.args.node))) ≡ None) (sym c.self.view_is) c.requires in
    let form = c.node_form.ensures in
    record {
      cluster = rw c.in_ok-old.ensures.ok (node_put _ c.self.invariant.cluster c.args.node form none);
      places = record {
        nodes = c.in_ok-old.ensures.places;
        namespaces = room.namespaces;
        pods = room.pods;
        tiers = room.tiers;
        policies = room.policies;
        egresses = room.egresses;
      };
    }
