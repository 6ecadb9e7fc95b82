-- Once the nodes are fixed they are the cluster's, and stay.
use Rattle.std.proofs.Common.{◌≡◌, ℕ, List, [], ◌∷◌, map, Bool, true, false, Result, Ok, Err, if◌then◌else◌, refl, sym, ap, ◌∙◌, inl, inr}
use Rattle.cl_types.specs.Text.{text_eq}
use Rattle.cluster_types.specs.Cluster.{ClusterData, IsCluster}
use Rattle.cluster_types.specs.Node.{NodeData}
use Rattle.cluster_objects.specs.declared.change.ClusterRefusal.{ClusterRefusal}
use Rattle.cluster_objects.specs.Changes.{Outcomes, after}
use Rattle.cluster_objects.specs.Laws.{ChangesKeepClusters, FixedNodesStay, UnchangedLeavesTheCluster}
use Rattle.run_machine.specs.Laws.{IsWholeEvent, HasNodes, fixed_nodes}
use Rattle.run_machine.specs.Machine.{SiteData, WorldData, StreamOf, Event, change, cut, rejoin, take, channel_on, cut_at, rejoined_at, taken, offered_all, revised, first_site, fixed_after, changed, accepted, at_site, happens}
use Rattle.run_machine.proofs.Falling.{same_after}
use Rattle.run_machine.proofs.Lists.{StaysLate, HasTurned, late_after, turned_after}
use Rattle.run_machine.proofs.Present.{not_both, fixed_now, fixed_not}
use Rattle.run_machine.proofs.Starting.{fixed_cases}

abbrev names : List SiteData → List (List ℕ)
names = map (λ (x : SiteData). x.node)

same_names : (f : SiteData → SiteData) → ((x : SiteData) → (f x).node ≡ x.node) → (xs : List SiteData) → names (map f xs) ≡ names xs
same_names f same [] = refl
same_names f same (x ∷ xs) = ap (λ n. n ∷ names (map f xs)) (same x) ∙ ap (λ l. x.node ∷ l) (same_names f same xs)

first_names : (ns : List NodeData) → names (map first_site ns) ≡ map (λ (n : NodeData). n.name) ns
first_names [] = refl
first_names (n ∷ ns) = ap (λ l. n.name ∷ l) (first_names ns)

at_names : (node : List ℕ) (f : SiteData → SiteData) → ((x : SiteData) → (f x).node ≡ x.node) → (w : WorldData) → HasNodes w → HasNodes (at_site node f w)
at_names node f same w has = same_names (λ (x : SiteData). if text_eq x.node node then f x else x) (λ x. by_test x (text_eq x.node node)) w.sites ∙ has
  where
    by_test : (x : SiteData) (b : Bool) → (if b then f x else x).node ≡ x.node
    by_test x true = same x
    by_test x false = refl

-- ---- changes

nodes_once : (c : ClusterData) → c.fixed ≡ true → fixed_nodes c ≡ map (λ (n : NodeData). n.name) c.nodes
nodes_once c fixed = ap (λ b. if b then map (λ (n : NodeData). n.name) c.nodes else []) fixed

none_before : (c : ClusterData) → c.fixed ≡ false → fixed_nodes c ≡ []
none_before c early = ap (λ b. if b then map (λ (n : NodeData). n.name) c.nodes else []) early

module _ (o : Outcomes) (w : WorldData) (has : HasNodes w) where
  late_nodes : w.cluster.fixed ≡ true → StaysLate w.cluster o → names (fixed_after o.cluster w).sites ≡ fixed_nodes o.cluster
  late_nodes is stays =
      fixed_cases (λ v. names v.sites ≡ fixed_nodes o.cluster) o.cluster w
      (has ∙ (nodes_once w.cluster is ∙ (ap (map (λ (n : NodeData). n.name)) (sym stays.nodes) ∙ sym (nodes_once o.cluster stays.fixed)))) (λ early. absurd (not_both is early))

  turned_nodes : w.cluster.fixed ≡ false → HasTurned o → names (fixed_after o.cluster w).sites ≡ fixed_nodes o.cluster
  turned_nodes is (inl still) =
      ap (λ (v : WorldData). names v.sites) (fixed_not o.cluster w still.1) ∙ (has ∙ (none_before w.cluster is ∙ sym (none_before o.cluster still.1)))
  turned_nodes is (inr now) =
      ap (λ (v : WorldData). names v.sites) (fixed_now o.cluster w now.0 is) ∙ (first_names o.cluster.nodes ∙ sym (nodes_once o.cluster now.0))

  changed_nodes : (backs : List StreamOf) → names (fixed_after o.cluster w).sites ≡ fixed_nodes o.cluster → HasNodes (changed o backs w)
  changed_nodes backs now = by_test o.other_changed
    where
      by_test : (b : Bool) → HasNodes (if b then revised backs o.cluster (fixed_after o.cluster w) else record (fixed_after o.cluster w) { cluster = o.cluster })
      by_test true = same_names (offered_all (fixed_after o.cluster w) o.cluster backs) (λ x. refl) (fixed_after o.cluster w).sites ∙ now
      by_test false = now

module _ (keep : ChangesKeepClusters) (stay : FixedNodesStay) (leave : UnchangedLeavesTheCluster) where
  pub event_nodes : (e : Event) (w : WorldData) → IsCluster w.cluster → IsWholeEvent e → HasNodes w → HasNodes (happens e w)
  event_nodes (change changes backs) w is whole has = by_result (after w.cluster changes) refl
    where
      by_fixed : (o : Outcomes) → after w.cluster changes ≡ Ok o → (b : Bool) → w.cluster.fixed ≡ b → names (fixed_after o.cluster w).sites ≡ fixed_nodes o.cluster
      by_fixed o e true fixed = late_nodes o w has fixed (late_after keep stay leave w.cluster is changes whole fixed o e)
      by_fixed o e false early = turned_nodes o w has early (turned_after keep stay leave w.cluster is changes whole early o e)

      by_result : (r : Result Outcomes ClusterRefusal) → after w.cluster changes ≡ r → HasNodes (accepted r backs w)
      by_result (Ok o) e = changed_nodes o w has backs (by_fixed o e w.cluster.fixed refl)
      by_result (Err refusal) e = has
  event_nodes (cut at) w is whole has = at_names at.node (cut_at at.stream) (λ x. refl) w has
  event_nodes (rejoin at) w is whole has = at_names at.node (rejoined_at w at.stream) (λ x. refl) w has
  event_nodes (take at) w is whole has = at_names at.node (taken at.stream) (λ x. same_after (channel_on at.stream x).queue at.stream x) w has
