-- What a line of changes makes of a controller (this project's own).
use Rattle.std.specs.Prelude.{◌≡◌, ◌⊎◌, ◌+◌, List, Bool, true, false, not, ◌&&◌, Result, Ok, Err}
use Rattle.cl_types.specs.declared.stream.Rev.{Rev}
use Rattle.cluster_types.specs.declared.change.Change.{Change}
use Rattle.cluster_types.specs.Cluster.{ClusterData}
use Rattle.cluster_objects.specs.declared.change.Applied.{Applied}
use Rattle.cluster_objects.specs.declared.change.ClusterRefusal.{ClusterRefusal}
use Rattle.cluster_objects.specs.declared.change.ClusterRefusal.TheVariants.{NoMemory}
use Rattle.cluster_objects.specs.Apply.{Outcome, makes_difference}
use Rattle.cluster_objects.specs.Changes.{Outcomes, after, is_node}
use Rattle.watch_streams.specs.Ports.{PortState}
use Rattle.ctl_core.specs.declared.outcome.StreamOf.{StreamOf}
use Rattle.ctl_core.specs.declared.outcome.Outcome as outcome
use Rattle.ctl_core.specs.declared.outcome.Outcome.TheVariants.{Revision, Unchanged}
use Rattle.ctl_core.specs.Controller.{ControllerData}
use Rattle.ctl_core.specs.Telling.{messages_of, streams_cut}
use Rattle.node_streams.specs.Telling.{AreTold}

-- ---- changes of a cluster whose nodes are fixed

-- the cluster after changes, and whether one of something other than a Node made a difference
pub record Came : Type 0 where
  pub cluster : ClusterData
  pub differs : Bool

abbrev pub came_to : ClusterData → Bool → Came
came_to c differs = record { cluster = c; differs = differs }

abbrev pub came : Result Outcomes ClusterRefusal → Result Came ClusterRefusal
came (Ok o) = Ok (came_to o.cluster o.other_changed)
came (Err refusal) = Err refusal

-- whether a change of something other than a Node made a difference
abbrev pub other_differs : Change → Applied → Bool
other_differs change applied = not (is_node change) && makes_difference applied

-- what one change comes to
abbrev pub one_came : Change → Result Outcome ClusterRefusal → Result Came ClusterRefusal
one_came change (Ok o) = Ok (came_to o.cluster (other_differs change o.applied))
one_came change (Err refusal) = Err refusal

-- What a call answered is what changes come to, as far as memory went.
abbrev pub ComesTo : Result Came ClusterRefusal → Result Bool ClusterRefusal → ClusterData → Type 0
ComesTo result (Ok differs) new = result ≡ Ok (came_to new differs)
ComesTo result (Err NoMemory) new = Unit {0}
ComesTo result (Err refusal) new = result ≡ Err refusal

-- unless a difference was made, or memory ran out, all is as it was
abbrev pub UnlessMade : Result Bool ClusterRefusal → Type 0 → Type 0
UnlessMade (Ok true) Same = Unit {0}
UnlessMade (Ok false) Same = Same
UnlessMade (Err NoMemory) Same = Unit {0}
UnlessMade (Err refusal) Same = Same

-- changes made a difference, or memory ran out, maybe in the middle of them
abbrev pub is_under_way : Result Bool ClusterRefusal → Bool
is_under_way (Ok differs) = differs
is_under_way (Err NoMemory) = true
is_under_way (Err refusal) = false

-- the nodes are the same ones, and fixed
pub record LeavesNodes (old new : ClusterData) : Type 0 where
  pub nodes : new.nodes ≡ old.nodes
  pub fixed : new.fixed ≡ true

-- ---- a line

-- The cluster has the revision that follows. Each live stream of each node was told exactly what changed on it, and was cut
-- where its port handed the message back; the streams that were cut are listed.
pub record Revises {P : Type 0} (state : P → PortState) (Same : P → P → Type 0) (c : ClusterData) (rev : Rev) (cut : List StreamOf) (old new : ControllerData P) : Type 0 where
  pub next : rev.0 ≡ old.revision.0 + 1
  pub revision : new.revision ≡ rev
  pub cluster : new.cluster ≡ c
  pub spent : new.spent ≡ false
  pub told : AreTold state Same (messages_of old.cluster c rev) old.nodes new.nodes
  pub listed : cut ≡ streams_cut old.nodes new.nodes

-- the revision is told
abbrev pub IsRevised : {P : Type 0} → (P → PortState) → (P → P → Type 0) → ClusterData → ControllerData P → ControllerData P → outcome.Outcome → Type 0
IsRevised state Same c old new (Revision rev cut) = Revises state Same c rev cut old new
IsRevised state Same c old new Unchanged = ⊥

-- the changes made a difference, and the cluster after them makes a revision
pub record MakesRevision {P : Type 0} (state : P → PortState) (Same : P → P → Type 0) (changes : List Change) (rev : Rev) (cut : List StreamOf) (old new : ControllerData P) : Type 0 where
  pub made : came (after old.cluster changes) ≡ Ok (came_to new.cluster true)
  pub revised : Revises state Same new.cluster rev cut old new

-- the changes made no difference, and the controller is as it was
pub record MakesNoRevision {P : Type 0} (changes : List Change) (old new : ControllerData P) : Type 0 where
  pub made : came (after old.cluster changes) ≡ Ok (came_to old.cluster false)
  pub same : new ≡ old

-- The first change that is refused is answered, and the controller is as it was.
pub record RefusesLine {P : Type 0} (changes : List Change) (refusal : ClusterRefusal) (old new : ControllerData P) : Type 0 where
  pub refused : after old.cluster changes ≡ Err refusal
  pub same : new ≡ old

-- nothing was sent, and the controller is of no more use
pub record IsSpent {P : Type 0} (old new : ControllerData P) : Type 0 where
  pub spent : new.spent ≡ true
  pub revision : new.revision ≡ old.revision
  pub nodes : new.nodes ≡ old.nodes

-- Where memory is wanting, the controller is as it was, or it is spent.
abbrev pub TakesLine : {P : Type 0} → (P → PortState) → (P → P → Type 0) → List Change → Result outcome.Outcome ClusterRefusal → ControllerData P → ControllerData P → Type 0
TakesLine state Same changes (Ok (Revision rev cut)) old new = MakesRevision state Same changes rev cut old new
TakesLine state Same changes (Ok Unchanged) old new = MakesNoRevision changes old new
TakesLine state Same changes (Err NoMemory) old new = IsSpent old new ⊎ (new ≡ old)
TakesLine state Same changes (Err refusal) old new = RefusesLine changes refusal old new
