use Rattle.std.proofs.Common.{◌≡◌, Bool, true, Option, None, refl, sym, ◌∙◌, ap, subst, option_map}
use Rattle.cl_types.specs.declared.keys.PodKey.{PodKey}
use Rattle.cluster_types.specs.declared.change.Change.TheVariants.{Put}
use Rattle.cluster_types.specs.declared.change.Object.{Object}
use Rattle.cluster_types.specs.declared.change.Object.TheVariants as object
use Rattle.cluster_types.specs.declared.change.ObjectKey.TheVariants as key
use Rattle.cluster_objects.specs.declared.change.Undo.{Undo}
use Rattle.cluster_objects.specs.Apply.{made, outcome}
use Rattle.cluster_objects.specs.Changes.{undo_of}
use Rattle.cluster_types.specs.Cluster.{ClusterData, ClusterState}
use Rattle.cluster_types.specs.Pod.{PodData}
use Rattle.cluster_objects.specs.Refusals.{checks, first_refusal}
use Rattle.cluster_objects.proofs.Keeping.{pod_put, no_taker}
use Rattle.cluster_objects.proofs.cluster.Cluster.put_pod.Goals as goal

abbrev undo : PodKey → Option Object → Bool → Undo
undo name old fixed = record { key = key.Pod name; old = old; fixed = fixed }

pub returns-clause-made : goal.returns-clause-made
returns-clause-made c =
    let in_memory = c.self.inside in
    let before : ClusterData = record { nodes = in_memory.nodes.items; fixed = in_memory.fixed; namespaces = in_memory.namespaces.items; pods = in_memory.pods.pods; tiers = in_memory.tiers.items; policies = in_memory.policies.items; egresses = in_memory.egresses.items } in
    subst (λ (s : ClusterState). made s.cluster (Put (object.Pod c.args.pod)) ≡ outcome (record before { fixed = true; pods = c.put.new.self.pods }) c.put_difference-applied.result) c.self.view_is
    (rw (c.in_ok-put.ensures.ok, c.put_difference-applied.ensures, c.as_slice.ensures.value) refl)

pub returns-clause-undo : goal.returns-clause-undo
returns-clause-undo c =
    let old = c.pod_object-old.ensures ∙ ap (option_map (λ (p : PodData). object.Pod p)) c.in_ok-put.ensures.old in
    subst (λ (s : ClusterState). undo c.in_ok-copy.field-0 c.pod_object-old.result c.self.inside.fixed ≡ undo_of s.cluster (Put (object.Pod c.args.pod))) c.self.view_is
    (rw (c.in_ok-copy.ensures ∙ ap (λ (p : PodData). p.key) c.pod.view_is, old) refl)

pub put-requires : goal.put-requires
put-requires c =
    let none = subst (λ (s : ClusterState). first_refusal (checks s.cluster (Put (object.Pod c.args.pod))) ≡ None) (sym c.self.view_is) c.requires in
    record { free = no_taker _ c.self.invariant.cluster c.args.pod c.pod_form.ensures none }

pub invariant_of-self-2 : goal.invariant_of-self-2
invariant_of-self-2 c =
    let room = c.self.invariant.places in
    let none = subst (λ (s : ClusterState). first_refusal (checks s.cluster (Put (object.Pod c.args.pod))) ≡ None) (sym c.self.view_is) c.requires in
    let form = c.pod_form.ensures in
    record {
      cluster = rw c.in_ok-put.ensures.ok (pod_put _ c.self.invariant.cluster c.args.pod form none);
      places = record {
        nodes = room.nodes;
        namespaces = room.namespaces;
        pods = c.in_ok-put.ensures.places;
        tiers = room.tiers;
        policies = room.policies;
        egresses = room.egresses;
      };
    }
