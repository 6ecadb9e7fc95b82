use Rattle.std.proofs.Common.{◌≡◌, None, sym, subst}
use Rattle.cluster_types.specs.declared.change.Change.TheVariants.{Put}
use Rattle.cluster_types.specs.declared.change.Object.TheVariants as object
use Rattle.cluster_types.specs.Cluster.{ClusterState}
use Rattle.cluster_objects.specs.Refusals.{checks, first_refusal}
use Rattle.cluster_objects.proofs.Keeping.{namespace_put}
use Rattle.cluster_types.specs.Node.{NamespaceData}
use Rattle.cluster_types.specs.Whole.{IsWholeNamespace}
use Rattle.cluster_objects.proofs.cluster.Cluster.put_namespace.Goals as goal

pub invariant_of-self-2 : goal.invariant_of-self-2
invariant_of-self-2 c =
    let room = c.self.invariant.places in
    let none = subst (λ (s : ClusterState). first_refusal (checks s.cluster (Put (object.Namespace c.args.namespace))) ≡ None) (sym c.self.view_is) c.requires in
    let form = subst (λ (n : NamespaceData). IsWholeNamespace n) c.namespace.view_is c.labels_form.ensures in
    record {
      cluster = rw c.in_ok-old.ensures.ok (namespace_put _ c.self.invariant.cluster c.args.namespace form none);
      places = record {
        nodes = room.nodes;
        namespaces = c.in_ok-old.ensures.places;
        pods = room.pods;
        tiers = room.tiers;
        policies = room.policies;
        egresses = room.egresses;
      };
    }
