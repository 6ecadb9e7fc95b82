-- What holds of a run, whatever happens in it (this project's own).
use Rattle.std.specs.Prelude.{◌≡◌, ℕ, ◌≤◌, List, [], ◌∷◌, length, map, true, false, if◌then◌else◌, get_or}
use Rattle.std.specs.List.{AllByRecursion}
use Rattle.cl_types.specs.declared.question.Question.{Question}
use Rattle.cl_types.specs.declared.stream.Stream.{Stream}
use Rattle.cluster_types.specs.Cluster.{ClusterData, IsCluster, no_objects}
use Rattle.cluster_types.specs.Evaluation.{side}
use Rattle.cluster_types.specs.Node.{NodeData}
use Rattle.cluster_objects.specs.Laws.{IsWholeChange}
use Rattle.watch_streams.specs.HeldEvaluation.{held_side}
use Rattle.watch_streams.specs.Stream.{IsStream, map_at}
use Rattle.held_maps.specs.Held.{map_on}
use Rattle.run_machine.specs.Machine.{SiteData, WorldData, Event, change, cut, rejoin, take, on, channel_on, is_among, is_full, last_cluster, first_world, happens, all_happen}

-- each object of a line has what its type keeps
abbrev pub IsWholeEvent : Event → Type 0
IsWholeEvent (change changes backs) = AllByRecursion IsWholeChange changes
IsWholeEvent (cut at) = Unit {0}
IsWholeEvent (rejoin at) = Unit {0}
IsWholeEvent (take at) = Unit {0}

-- ---- a node

-- What waits on a stream leads on from the revision at which the agent holds its map, and the map is what belongs on
-- the stream at that revision.
pub record IsKept (history : List ClusterData) (x : SiteData) (s : Stream) : Type 0 where
  pub queued : IsStream history s x.node (channel_on s x).live (on s x.revisions) (channel_on s x).queue
  pub up_to_date : map_on s x.maps ≡ map_at history s x.node (on s x.revisions)

abbrev pub IsInStep : List ClusterData → SiteData → Type 0
IsInStep history x = (s : Stream) → IsKept history x s

-- where the three revisions are one, the verdict of what is held is the policies' own at that revision
abbrev pub JudgesAsPolicies : List ClusterData → SiteData → Type 0
JudgesAsPolicies history x =
    (rev : ℕ) (q : Question) → ((s : Stream) → on s x.revisions ≡ rev) → held_side x.maps q ≡ side (get_or history rev no_objects) x.node q

-- ---- what an event leaves

-- the nodes stay, and no revision of one falls
abbrev pub NoneFalls : List SiteData → List SiteData → Type 0
NoneFalls [] new = Unit {0}
NoneFalls (x ∷ xs) [] = ⊥
NoneFalls (x ∷ xs) (y ∷ ys) = (y.node ≡ x.node) × ((s : Stream) → on s x.revisions ≤ on s y.revisions) × NoneFalls xs ys

-- ---- the world

-- nothing waits on any stream, and all are live
abbrev pub IsSettled : SiteData → Type 0
IsSettled x = (s : Stream) → channel_on s x ≡ record { live = true; queue = [] }

-- then the verdict of what is held is the policies' own now
abbrev pub JudgesAsPoliciesNow : WorldData → SiteData → Type 0
JudgesAsPoliciesNow w x = (q : Question) → IsSettled x → held_side x.maps q ≡ side w.cluster x.node q

-- Before the nodes are fixed there is no revision. From then on the cluster is that of the last one.
pub record IsPresent (w : WorldData) : Type 0 where
  pub none : w.cluster.fixed ≡ false → w.history ≡ []
  pub last : w.cluster.fixed ≡ true → last_cluster w ≡ w.cluster

-- the names of the nodes, once they are fixed
abbrev pub fixed_nodes : ClusterData → List (List ℕ)
fixed_nodes c = if c.fixed then map (λ (n : NodeData). n.name) c.nodes else []

abbrev pub HasNodes : WorldData → Type 0
HasNodes w = map (λ (x : SiteData). x.node) w.sites ≡ fixed_nodes w.cluster

pub record IsSound (w : WorldData) : Type 0 where
  pub cluster : IsCluster w.cluster
  pub clusters : AllByRecursion IsCluster w.history
  pub present : IsPresent w
  pub nodes : HasNodes w
  pub in_step : AllByRecursion (IsInStep w.history) w.sites
  pub judges : AllByRecursion (JudgesAsPolicies w.history) w.sites
  pub judges_now : AllByRecursion (JudgesAsPoliciesNow w) w.sites
  pub none_falls : (e : Event) → NoneFalls w.sites (happens e w).sites

-- whatever happens, the world is sound
abbrev pub EventsLeadToSoundWorlds : Type 0
EventsLeadToSoundWorlds = (ring : ℕ) (events : List Event) → AllByRecursion IsWholeEvent events → IsSound (all_happen events (first_world ring))

-- ---- rings

-- Messages come back from the streams on which no place is left, and none of these is rejoined.
abbrev pub FitsRings : WorldData → Event → Type 0
FitsRings w (change changes backs) = (s : Stream) (node : List ℕ) → is_full w s node ≡ true → is_among backs s node ≡ true
FitsRings w (cut at) = Unit {0}
FitsRings w (rejoin at) = is_full w at.stream at.node ≡ false
FitsRings w (take at) = Unit {0}

abbrev pub AllFitRings : WorldData → List Event → Type 0
AllFitRings w [] = Unit {0}
AllFitRings w (e ∷ events) = FitsRings w e × AllFitRings (happens e w) events

-- no more messages wait on a stream than it has places
abbrev pub IsWithinRing : ℕ → SiteData → Type 0
IsWithinRing ring x = (s : Stream) → length (channel_on s x).queue ≤ ring

abbrev pub QueuesStayWithinRings : Type 0
QueuesStayWithinRings =
    (ring : ℕ) (events : List Event) → 1 ≤ ring → AllFitRings (first_world ring) events
    → AllByRecursion (IsWithinRing ring) (all_happen events (first_world ring)).sites
