-- Once the nodes are fixed the cluster is that of the last revision.
use Rattle.std.proofs.Common.{◌≡◌, ◌-◌, List, [], ◌∷◌, ◌++◌, length, Bool, true, false, not, ◌&&◌, Result, Ok, Err, get_or, if◌then◌else◌, refl, sym, ap, subst, ◌∙◌, inl, inr, arith, true≢false}
use Rattle.std.proofs.Math.Seq.{get_or-append_seam}
use Rattle.std.specs.List.{AllByRecursion}
use Rattle.cluster_types.specs.declared.change.Change.{Change}
use Rattle.cluster_types.specs.Cluster.{ClusterData, IsCluster, no_objects}
use Rattle.cluster_objects.specs.declared.change.ClusterRefusal.{ClusterRefusal}
use Rattle.cluster_objects.specs.Changes.{Outcomes, after}
use Rattle.cluster_objects.specs.Laws.{IsWholeChange, ChangesKeepClusters, FixedNodesStay, UnchangedLeavesTheCluster}
use Rattle.run_machine.specs.Laws.{IsPresent}
use Rattle.run_machine.specs.Machine.{WorldData, StreamOf, revised, begun, fixed_after, changed, accepted}
use Rattle.run_machine.proofs.Lists.{StaysLate, HasTurned, late_after, turned_after}
use Rattle.run_machine.proofs.Reading.{one_more}
use Rattle.run_machine.proofs.Starting.{fixed_cases}

last_of_more : (history : List ClusterData) (c : ClusterData) → get_or (history ++ c ∷ []) (length (history ++ c ∷ []) - 1) no_objects ≡ c
last_of_more history c =
    let at : length (history ++ c ∷ []) - 1 ≡ length history = omega (arith, one_more history c) in
    ap (λ i. get_or (history ++ c ∷ []) i no_objects) at ∙ get_or-append_seam history c [] no_objects

pub not_both : {b : Bool} → b ≡ true → b ≡ false → ⊥
not_both t f = true≢false (sym t ∙ f)

revised_present : (backs : List StreamOf) (c : ClusterData) (w : WorldData) → c.fixed ≡ true → IsPresent (revised backs c w)
revised_present backs c w fixed = record { last = λ is. last_of_more w.history c; none = λ early. absurd (not_both fixed early) }

-- revision 0 is made where the nodes are fixed that weren't before
pub fixed_now : (c : ClusterData) (w : WorldData) → c.fixed ≡ true → w.cluster.fixed ≡ false → fixed_after c w ≡ begun c w
fixed_now c w fixed early = ap (λ b. if b && not w.cluster.fixed then begun c w else w) fixed ∙ ap (λ b. if not b then begun c w else w) early

pub fixed_not : (c : ClusterData) (w : WorldData) → c.fixed ≡ false → fixed_after c w ≡ w
fixed_not c w early = ap (λ b. if b && not w.cluster.fixed then begun c w else w) early

module _ (o : Outcomes) (backs : List StreamOf) (w : WorldData) (present : IsPresent w) where
  abbrev After : Bool → Type 0
  After b = IsPresent (if b then revised backs o.cluster (fixed_after o.cluster w) else record (fixed_after o.cluster w) { cluster = o.cluster })

  late_present : w.cluster.fixed ≡ true → StaysLate w.cluster o → (b : Bool) → o.other_changed ≡ b → After b
  late_present is stays true e = revised_present backs o.cluster (fixed_after o.cluster w) stays.fixed
  late_present is stays false e =
      fixed_cases (λ v. IsPresent (record v { cluster = o.cluster })) o.cluster w
      (record { last = λ fixed. present.last is ∙ sym (stays.same e); none = λ early. absurd (not_both stays.fixed early) })
      (λ early. absurd (not_both is early))

  turned_present : w.cluster.fixed ≡ false → HasTurned o → (b : Bool) → o.other_changed ≡ b → After b
  turned_present is (inl still) true e = absurd (not_both e still.0)
  turned_present is (inl still) false e =
      subst (λ v. IsPresent (record v { cluster = o.cluster })) (sym (fixed_not o.cluster w still.1))
      (record { last = λ fixed. absurd (not_both fixed still.1); none = λ early. present.none is })
  turned_present is (inr now) true e = revised_present backs o.cluster (fixed_after o.cluster w) now.0
  turned_present is (inr now) false e =
      subst (λ v. IsPresent (record v { cluster = o.cluster })) (sym (fixed_now o.cluster w now.0 is))
      (record { last = λ fixed. sym (now.1 e); none = λ early. absurd (not_both now.0 early) })

module _ (keep : ChangesKeepClusters) (stay : FixedNodesStay) (leave : UnchangedLeavesTheCluster) where
  pub change_present : (changes : List Change) (backs : List StreamOf) (w : WorldData) → IsCluster w.cluster → AllByRecursion IsWholeChange changes → IsPresent w
      → IsPresent (accepted (after w.cluster changes) backs w)
  change_present changes backs w is whole present = by_result (after w.cluster changes) refl
    where
      by_fixed : (o : Outcomes) → after w.cluster changes ≡ Ok o → (b : Bool) → w.cluster.fixed ≡ b → IsPresent (changed o backs w)
      by_fixed o e true fixed = late_present o backs w present fixed (late_after keep stay leave w.cluster is changes whole fixed o e) o.other_changed refl
      by_fixed o e false early = turned_present o backs w present early (turned_after keep stay leave w.cluster is changes whole early o e) o.other_changed refl

      by_result : (r : Result Outcomes ClusterRefusal) → after w.cluster changes ≡ r → IsPresent (accepted r backs w)
      by_result (Ok o) e = by_fixed o e w.cluster.fixed refl
      by_result (Err refusal) e = present
