-- Changes that were tried can be taken back, and that leads to where they began.
use Rattle.std.proofs.Common.{◌≡◌, ℕ, ◌≤◌, List, [], ◌∷◌, ◌++◌, length, refl, sym, ap, subst, ◌∙◌, arith}
use Rattle.std.specs.Prelude.{reverse}
use Rattle.std.proofs.lemmas.List.{reverse-append}
use Rattle.cluster_types.specs.Cluster.{ClusterData, ClusterState, HasPlaces, IsCluster, IsState, KeepsPlaces, Places}
use Rattle.cluster_objects.specs.declared.change.Undo.{Undo}
use Rattle.cluster_objects.specs.Changes.{taken_back}
use Rattle.cluster_objects.specs.Laws.{all_taken_back}
use Rattle.ctl_core.specs.Trying.{CanTakeBack}

-- what has its places has them where no kind has fewer
more_places : (c : ClusterData) (old new : Places) → KeepsPlaces old new → HasPlaces c old → HasPlaces c new
more_places c old new kept has = record {
  nodes = omega (arith, kept.nodes, has.nodes);
  namespaces = omega (arith, kept.namespaces, has.namespaces);
  pods = omega (arith, kept.pods, has.pods);
  tiers = omega (arith, kept.tiers, has.tiers);
  policies = omega (arith, kept.policies, has.policies);
  egresses = omega (arith, kept.egresses, has.egresses);
}

still_can : (us : List Undo) (c : ClusterData) (old new : Places) → KeepsPlaces old new → CanTakeBack us c old → CanTakeBack us c new
still_can [] c old new kept can = tt
still_can (u ∷ us) c old new kept can = (can.0, more_places (taken_back c u) old new kept can.1, still_can us (taken_back c u) old new kept can.2)

last_first : (us : List Undo) (u : Undo) → reverse (us ++ u ∷ []) ≡ u ∷ reverse us
last_first us u = reverse-append us (u ∷ [])

-- the undo of one more change
pub can_more : (us more : List Undo) (u : Undo) (old new : ClusterState) → IsState old → KeepsPlaces old.places new.places → taken_back new.cluster u ≡ old.cluster → more ≡ us ++ u ∷ []
    → CanTakeBack (reverse us) old.cluster old.places → CanTakeBack (reverse more) new.cluster new.places
can_more us more u old new whole kept back is can =
    subst (λ rs. CanTakeBack rs new.cluster new.places) (sym (ap reverse is ∙ last_first us u)) (
      subst IsCluster (sym back) whole.cluster,
      subst (λ d. HasPlaces d new.places) (sym back) (more_places old.cluster old.places new.places kept whole.places),
      subst (λ d. CanTakeBack (reverse us) d new.places) (sym back) (still_can (reverse us) old.cluster old.places new.places kept can),
    )

pub leads_more : (us more : List Undo) (u : Undo) (old new : ClusterData) → taken_back new u ≡ old → more ≡ us ++ u ∷ [] → all_taken_back new (reverse more) ≡ all_taken_back old (reverse us)
leads_more us more u old new back is = ap (all_taken_back new) (ap reverse is ∙ last_first us u) ∙ ap (λ d. all_taken_back d (reverse us)) back

-- where nothing was made the same can be taken back
pub can_still : (us : List Undo) (old new : ClusterState) → new.cluster ≡ old.cluster → KeepsPlaces old.places new.places → CanTakeBack (reverse us) old.cluster old.places → CanTakeBack (reverse us) new.cluster new.places
can_still us old new same kept can = subst (λ d. CanTakeBack (reverse us) d new.places) (sym same) (still_can (reverse us) old.cluster old.places new.places kept can)

-- ---- the last one is taken back

pub can_first : (us left : List Undo) (u : Undo) (c : ClusterData) (p : Places) → us ≡ left ++ u ∷ [] → CanTakeBack (reverse us) c p → CanTakeBack (u ∷ reverse left) c p
can_first us left u c p is can = subst (λ rs. CanTakeBack rs c p) (ap reverse is ∙ last_first left u) can

pub one_back : (us left : List Undo) (u : Undo) (c : ClusterData) (new : ClusterState) (p : Places) → us ≡ left ++ u ∷ [] → new.cluster ≡ taken_back c u → KeepsPlaces p new.places
    → CanTakeBack (reverse us) c p → CanTakeBack (reverse left) new.cluster new.places
one_back us left u c new p is back kept can =
    subst (λ d. CanTakeBack (reverse left) d new.places) (sym back) (still_can (reverse left) (taken_back c u) p new.places kept (can_first us left u c p is can).2)

pub leads_back : (us left : List Undo) (u : Undo) (c new : ClusterData) → us ≡ left ++ u ∷ [] → new ≡ taken_back c u → all_taken_back new (reverse left) ≡ all_taken_back c (reverse us)
leads_back us left u c new is back = ap (λ d. all_taken_back d (reverse left)) back ∙ sym (ap (all_taken_back c) (ap reverse is ∙ last_first left u))
