use Rattle.std.proofs.Common.{◌≡◌, ℕ, List, Bool, Option, refl, None, sym, ◌∙◌, ap, subst, option_map}
use Rattle.cluster_types.specs.declared.change.Object.{Object}
use Rattle.cluster_types.specs.declared.change.Object.TheVariants as object
use Rattle.cluster_objects.specs.declared.change.Undo.{Undo}
use Rattle.cluster_types.specs.declared.change.Change.TheVariants.{Put}
use Rattle.cluster_types.specs.declared.change.ObjectKey.TheVariants as key
use Rattle.cluster_objects.specs.Changes.{undo_of}
use Rattle.cluster_types.specs.Cluster.{ClusterState}
use Rattle.cluster_objects.specs.Refusals.{checks, first_refusal}
use Rattle.cluster_types.specs.Tier.{TierData}
use Rattle.cluster_objects.proofs.Tiers.{one_tier}
use Rattle.cluster_objects.proofs.Keeping.{tier_put, fixed_none, taken_none}
use Rattle.cluster_objects.proofs.cluster.Cluster.put_tier.Goals as goal

abbrev undo : List ℕ → Option Object → Bool → Undo
undo name old fixed = record { key = key.Tier name; old = old; fixed = fixed }

-- what had the tier's priority is what had its name
pub returns-clause-undo : goal.returns-clause-undo
returns-clause-undo c =
    let none = subst (λ (s : ClusterState). first_refusal (checks s.cluster (Put (object.Tier c.args.tier))) ≡ None) (sym c.self.view_is) c.requires in
    let one = one_tier c.args.tier _ c.self.invariant.cluster.tiers_ascend (fixed_none _ c.self.invariant.cluster c.args.tier none) (taken_none _ c.self.invariant.cluster c.args.tier none) in
    let old = c.tier_object-old.ensures ∙ ap (option_map (λ (t : TierData). object.Tier t)) (c.in_ok-put.ensures.old ∙ one) in
    subst (λ (s : ClusterState). undo c.in_ok-copy.field-0 c.tier_object-old.result c.self.inside.fixed ≡ undo_of s.cluster (Put (object.Tier c.args.tier))) c.self.view_is
    (rw (c.in_ok-copy.ensures ∙ ap (λ (t : TierData). t.name) c.tier.view_is, old) refl)

pub invariant_of-self-2 : goal.invariant_of-self-2
invariant_of-self-2 c =
    let room = c.self.invariant.places in
    let none = subst (λ (s : ClusterState). first_refusal (checks s.cluster (Put (object.Tier c.args.tier))) ≡ None) (sym c.self.view_is) c.requires in
    record {
      cluster = rw c.in_ok-put.ensures.ok (tier_put _ c.self.invariant.cluster c.args.tier none);
      places = record {
        nodes = room.nodes;
        namespaces = room.namespaces;
        pods = room.pods;
        tiers = c.in_ok-put.ensures.places;
        policies = room.policies;
        egresses = room.egresses;
      };
    }
