use Rattle.std.proofs.Common.{◌≡◌, Bool, true, Option, refl, ◌∙◌, ap, subst, option_map, None, sym}
use Rattle.cl_types.specs.PolicyName.{PolicyName}
use Rattle.cluster_types.specs.declared.change.Change.TheVariants.{Put}
use Rattle.cluster_types.specs.declared.change.Object.{Object}
use Rattle.cluster_types.specs.declared.change.Object.TheVariants as object
use Rattle.cluster_types.specs.declared.change.ObjectKey.TheVariants as key
use Rattle.cluster_objects.specs.declared.change.Undo.{Undo}
use Rattle.cluster_objects.specs.Apply.{made, outcome, numbered_policy}
use Rattle.cluster_objects.specs.Changes.{undo_of}
use Rattle.cluster_types.specs.Cluster.{ClusterData, ClusterState}
use Rattle.cluster_types.specs.Policy.{PolicyData}
use Rattle.cluster_objects.specs.Refusals.{checks, first_refusal}
use Rattle.cluster_objects.proofs.Keeping.{policy_put}
use Rattle.cluster_objects.proofs.cluster.Cluster.put_policy.Goals as goal

abbrev undo : PolicyName → Option Object → Bool → Undo
undo name old fixed = record { key = key.Policy name; old = old; fixed = fixed }

pub returns-clause-made : goal.returns-clause-made
returns-clause-made c =
    let in_memory = c.self.inside in
    let before : ClusterData = record { nodes = in_memory.nodes.items; fixed = in_memory.fixed; namespaces = in_memory.namespaces.items; pods = in_memory.pods.pods; tiers = in_memory.tiers.items; policies = in_memory.policies.items; egresses = in_memory.egresses.items } in
    subst (λ (s : ClusterState). made s.cluster (Put (object.Policy c.args.policy)) ≡ outcome (record before { fixed = true; policies = c.put.new.items.items }) c.put_difference-applied.result) c.self.view_is
    (rw (c.in_ok-put.ensures.ok, c.put_difference-applied.ensures, c.as_slice.ensures.value) refl)

pub returns-clause-undo : goal.returns-clause-undo
returns-clause-undo c =
    let old = c.policy_object-old.ensures ∙ ap (option_map (λ (x : PolicyData). object.Policy x)) c.in_ok-put.ensures.old in
    subst (λ (s : ClusterState). undo c.in_ok-copy.field-0 c.policy_object-old.result c.self.inside.fixed ≡ undo_of s.cluster (Put (object.Policy c.args.policy))) c.self.view_is
    (rw (c.in_ok-copy.ensures ∙ ap (λ (x : PolicyData). x.key) c.policy.view_is, old) refl)

pub invariant_of-self-2 : goal.invariant_of-self-2
invariant_of-self-2 c =
    let room = c.self.invariant.places in
    let none = subst (λ (s : ClusterState). first_refusal (checks s.cluster (Put (object.Policy c.args.policy))) ≡ None) (sym c.self.view_is) c.requires.none in
    let form = c.policy_form.ensures in
    let numbered = subst (λ (s : ClusterState). numbered_policy s.cluster c.args.policy ≡ c.args.policy) (sym c.self.view_is) c.requires.numbered in
    record {
      cluster = rw c.in_ok-put.ensures.ok (policy_put _ c.self.invariant.cluster c.args.policy form numbered none);
      places = record {
        nodes = room.nodes;
        namespaces = room.namespaces;
        pods = room.pods;
        tiers = room.tiers;
        policies = c.in_ok-put.ensures.places;
        egresses = room.egresses;
      };
    }
