-- A change that was made can be taken back.
use Rattle.std.proofs.Common.{◌≡◌, ◌≤◌, Result, Ok, subst, ap, ◌∙◌, arith}
use Rattle.std.specs.Prelude.{IfOk}
use Rattle.cluster_types.specs.declared.change.Change.{Change}
use Rattle.cluster_types.specs.Cluster.{ClusterData, IsCluster, Places, HasPlaces, KeepsPlaces}
use Rattle.cluster_objects.specs.declared.change.ClusterRefusal.{ClusterRefusal}
use Rattle.cluster_objects.specs.declared.change.Kept.{Kept}
use Rattle.cluster_objects.specs.declared.change.Undo.{Undo}
use Rattle.cluster_objects.specs.Apply.{Outcome, outcome}
use Rattle.cluster_objects.specs.Changes.{Follows, applied_of, apply, taken_back, undo_of}
use Rattle.cluster_objects.specs.Laws.{UndoTakesBack}

pub back : (old new : ClusterData) (change : Change) (r : Result Kept ClusterRefusal) (kept : Kept) → UndoTakesBack → IsCluster old → r ≡ Ok kept →
    Follows (apply old change) old (applied_of r) new → IfOk r (λ (k : Kept). k.undo ≡ undo_of old change) → taken_back new kept.undo ≡ old
back old new change r kept law is e follows undoes =
    let made = subst (λ (s : Result Kept ClusterRefusal). Follows (apply old change) old (applied_of s) new) e follows in
    let undo = subst (λ (s : Result Kept ClusterRefusal). IfOk s (λ (k : Kept). k.undo ≡ undo_of old change)) e undoes in
    ap (λ (u : Undo). taken_back new u) undo ∙ law old change (outcome new kept.applied) is made

pub has_places : (c : ClusterData) (p q : Places) → HasPlaces c p → KeepsPlaces p q → HasPlaces c q
has_places c p q has keeps = record {
  nodes = let a = has.nodes in let b = keeps.nodes in omega arith;
  namespaces = let a = has.namespaces in let b = keeps.namespaces in omega arith;
  pods = let a = has.pods in let b = keeps.pods in omega arith;
  tiers = let a = has.tiers in let b = keeps.tiers in omega arith;
  policies = let a = has.policies in let b = keeps.policies in omega arith;
  egresses = let a = has.egresses in let b = keeps.egresses in omega arith;
}
