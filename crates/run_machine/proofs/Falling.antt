-- No event lets a revision fall.
use Rattle.std.proofs.Common.{◌≡◌, ℕ, ◌+◌, ◌≤◌, List, [], ◌∷◌, length, map, Bool, true, false, Result, Ok, Err, if◌then◌else◌, refl, subst, arith}
use Rattle.std.specs.List.{AllByRecursion}
use Rattle.cl_types.specs.ListLaws.{all_each, all_weaker}
use Rattle.cl_types.specs.Text.{text_eq}
use Rattle.cl_types.specs.declared.stream.Stream.{Stream}
use Rattle.cl_types.specs.declared.stream.Stream.TheVariants.{Policies}
use Rattle.cluster_types.specs.Cluster.{ClusterData, IsCluster}
use Rattle.cluster_objects.specs.declared.change.ClusterRefusal.{ClusterRefusal}
use Rattle.cluster_objects.specs.Changes.{Outcomes, after}
use Rattle.watch_streams.specs.declared.message.Msg.{Msg}
use Rattle.watch_streams.specs.Laws.{StreamsLeadOn}
use Rattle.run_machine.specs.Laws.{IsInStep, IsPresent, NoneFalls}
use Rattle.run_machine.specs.Machine.{SiteData, WorldData, StreamOf, Event, change, cut, rejoin, take, on, cut_at, rejoined_at, channel_on, taken_of, taken, offered_all, revised, fixed_after, changed, accepted, happens}
use Rattle.run_machine.proofs.Starting.{fixed_cases}
use Rattle.run_machine.proofs.Taking.{taken_later}

-- ---- nodes

-- the node is the same, and none of its revisions is smaller
abbrev Stays : SiteData → SiteData → Type 0
Stays x y = (y.node ≡ x.node) × ((s : Stream) → on s x.revisions ≤ on s y.revisions)

stays_itself : (x : SiteData) → Stays x x
stays_itself x = (refl, λ s. omega arith)

none_falls_each : (f : SiteData → SiteData) (xs : List SiteData) → AllByRecursion (λ x. Stays x (f x)) xs → NoneFalls xs (map f xs)
none_falls_each f [] all = tt
none_falls_each f (x ∷ xs) all = (all.0.0, all.0.1, none_falls_each f xs all.1)

none_falls_itself : (xs : List SiteData) → NoneFalls xs xs
none_falls_itself [] = tt
none_falls_itself (x ∷ xs) = (refl, λ s. omega arith, none_falls_itself xs)

none_falls_at : (P : SiteData → Type 0) (node : List ℕ) (f : SiteData → SiteData) → ((x : SiteData) → P x → Stays x (f x)) → (xs : List SiteData) → AllByRecursion P xs
    → NoneFalls xs (map (λ (x : SiteData). if text_eq x.node node then f x else x) xs)
none_falls_at P node f stays xs all =
    none_falls_each (λ (x : SiteData). if text_eq x.node node then f x else x) xs
    (all_weaker P (λ (x : SiteData). Stays x (if text_eq x.node node then f x else x)) (λ x is. by_test x is (text_eq x.node node)) xs all)
  where
    by_test : (x : SiteData) → P x → (b : Bool) → Stays x (if b then f x else x)
    by_test x is true = stays x is
    by_test x is false = stays_itself x

pub too_few : (n : ℕ) → n + 1 ≤ 0 → ⊥
too_few n h = omega (arith, h)

-- before the first revision there are no nodes
none_before : (history : List ClusterData) → history ≡ [] → (xs new : List SiteData) → AllByRecursion (IsInStep history) xs → NoneFalls xs new
none_before history none [] new all = tt
none_before history none (x ∷ xs) new all = absurd (too_few _ (subst (λ h. on Policies x.revisions + 1 ≤ length h) none (all.0 Policies).queued.within))

-- ---- events

-- cuts and rejoins move no revision
stays_cut : (s : Stream) (x : SiteData) → Stays x (cut_at s x)
stays_cut s x = (refl, λ t. omega arith)

stays_rejoined : (w : WorldData) (s : Stream) (x : SiteData) → Stays x (rejoined_at w s x)
stays_rejoined w s x = (refl, λ t. omega arith)

stays_offered : (w : WorldData) (c : ClusterData) (backs : List StreamOf) (x : SiteData) → Stays x (offered_all w c backs x)
stays_offered w c backs x = (refl, λ t. omega arith)

pub same_after : (queue : List Msg) (s : Stream) (x : SiteData) → (taken_of queue s x).node ≡ x.node
same_after [] s x = refl
same_after (m ∷ messages) s x = refl

module _ (w : WorldData) (all : AllByRecursion (IsInStep w.history) w.sites) (present : IsPresent w) where
  offered_falls : (v : WorldData) (c : ClusterData) (backs : List StreamOf) → NoneFalls w.sites (map (offered_all v c backs) w.sites)
  offered_falls v c backs = none_falls_each (offered_all v c backs) w.sites (all_each (λ x. Stays x (offered_all v c backs x)) (stays_offered v c backs) w.sites)

  changed_falls : (o : Outcomes) (backs : List StreamOf) → NoneFalls w.sites (changed o backs w).sites
  changed_falls o backs = by_test o.other_changed
    where
      by_test : (b : Bool) → NoneFalls w.sites (if b then revised backs o.cluster (fixed_after o.cluster w) else record (fixed_after o.cluster w) { cluster = o.cluster }).sites
      by_test true =
          fixed_cases (λ v. NoneFalls w.sites (revised backs o.cluster v).sites) o.cluster w (offered_falls w o.cluster backs) (λ early. none_before w.history (present.none early) w.sites _ all)
      by_test false =
          fixed_cases (λ v. NoneFalls w.sites v.sites) o.cluster w (none_falls_itself w.sites) (λ early. none_before w.history (present.none early) w.sites _ all)

  accepted_falls : (r : Result Outcomes ClusterRefusal) (backs : List StreamOf) → NoneFalls w.sites (accepted r backs w).sites
  accepted_falls (Ok o) backs = changed_falls o backs
  accepted_falls (Err refusal) backs = none_falls_itself w.sites

  pub event_falls : StreamsLeadOn → AllByRecursion IsCluster w.history → (e : Event) → NoneFalls w.sites (happens e w).sites
  event_falls lead whole (change changes backs) = accepted_falls (after w.cluster changes) backs
  event_falls lead whole (cut at) = none_falls_at (IsInStep w.history) at.node (cut_at at.stream) (λ x step. stays_cut at.stream x) w.sites all
  event_falls lead whole (rejoin at) = none_falls_at (IsInStep w.history) at.node (rejoined_at w at.stream) (λ x step. stays_rejoined w at.stream x) w.sites all
  event_falls lead whole (take at) =
      none_falls_at (IsInStep w.history) at.node (taken at.stream) (λ x step. (same_after (channel_on at.stream x).queue at.stream x, taken_later lead w.history whole at.stream x step)) w.sites all
