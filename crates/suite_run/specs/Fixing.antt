-- What a line makes of a cluster whose nodes aren't fixed, as an event of the machine (this project's own).
use Rattle.std.specs.Prelude.{◌≡◌, ℕ, suc, List, [], ◌∷◌, Bool, if◌then◌else◌, Result, Ok, Err}
use Rattle.cluster_types.specs.declared.change.Change.{Change}
use Rattle.cluster_types.specs.Cluster.{ClusterData}
use Rattle.cluster_objects.specs.declared.change.ClusterRefusal.{ClusterRefusal}
use Rattle.cluster_objects.specs.declared.change.ClusterRefusal.TheVariants.{NoMemory}
use Rattle.cluster_objects.specs.Apply.{fixed_nodes}
use Rattle.cluster_objects.specs.Changes.{Outcomes, after, is_node}
use Rattle.ctl_core.specs.Line.{came, came_to}
use Rattle.run_machine.specs.Machine.{WorldData, all_happen}
use Rattle.suite_run.specs.declared.fixing.Early.{Early}
use Rattle.suite_run.specs.declared.fixing.Early.TheVariants.{Bare, Fixed}
use Rattle.suite_run.specs.declared.fixing.First.{First}
use Rattle.suite_run.specs.Changing.{changing}
use Rattle.suite_run.specs.RunState.{Does, RunData, Stands, StandsEarly, begun_run}

-- how many changes of Nodes stand in front of the first other one
abbrev pub nodes_in_front : List Change → ℕ
nodes_in_front [] = 0
nodes_in_front (change ∷ changes) = if is_node change then suc (nodes_in_front changes) else 0

-- ---- a run begins

-- A run of these nodes took the changes, and whether one made a difference.
pub record BeginsRun (changes : List Change) (nodes : ClusterData) (ring : ℕ) (run : RunData) (differs : Bool) : Type 0 where
  pub made : came (after (fixed_nodes nodes) changes) ≡ Ok (came_to run.cluster differs)
  pub revision : run.revision ≡ (if differs then 1 else 0)
  pub does : Does (changing changes) (begun_run nodes ring) run

-- what a call that begins a run answered, as far as memory went
abbrev pub Begins : List Change → ClusterData → ℕ → Result (RunData × Bool) ClusterRefusal → Type 0
Begins changes nodes ring (Ok begun) = BeginsRun changes nodes ring begun.0 begun.1
Begins changes nodes ring (Err NoMemory) = Unit {0}
Begins changes nodes ring (Err refusal) = after (fixed_nodes nodes) changes ≡ Err refusal

-- ---- a line

abbrev pub cluster_of : Early → ClusterData
cluster_of (Bare c) = c.cluster
cluster_of (Fixed run) = run.cluster

-- (before the nodes are fixed there is no revision)
abbrev pub revision_of : Early → ℕ
revision_of (Bare c) = 0
revision_of (Fixed run) = run.revision

-- this is the world of the machine
abbrev pub StandsFor : ℕ → Early → WorldData → Type 0
StandsFor places (Bare c) w = StandsEarly c.cluster places w
StandsFor places (Fixed run) w = Stands run w

-- the line leads the machine from the bare cluster to such a world
abbrev pub LeadsTo : (WorldData → Type 0) → List Change → ClusterData → ℕ → Type 0
LeadsTo P changes c places = (w : WorldData) → StandsEarly c places w → P (all_happen (changing changes w) w)

abbrev pub outcomes_of : First → Outcomes
outcomes_of first = record { cluster = cluster_of first.early; node_changed = first.node; other_changed = first.other }

-- the changes were made, and the first revision is told where one of something other than a Node made a difference
pub record TakesFirst (changes : List Change) (c : ClusterData) (places : ℕ) (first : First) : Type 0 where
  pub made : after c changes ≡ Ok (outcomes_of first)
  pub revision : revision_of first.early ≡ (if first.other then 1 else 0)
  pub leads : LeadsTo (StandsFor places first.early) changes c places

-- the first change that is refused is answered, and the world stays as it is
pub record RefusesFirst (changes : List Change) (c : ClusterData) (places : ℕ) (refusal : ClusterRefusal) : Type 0 where
  pub refused : after c changes ≡ Err refusal
  pub leads : LeadsTo (StandsEarly c places) changes c places

-- what is answered, as far as memory went
abbrev pub AnswersFirst : List Change → ClusterData → ℕ → Result First ClusterRefusal → Type 0
AnswersFirst changes c places (Ok first) = TakesFirst changes c places first
AnswersFirst changes c places (Err NoMemory) = Unit {0}
AnswersFirst changes c places (Err refusal) = RefusesFirst changes c places refusal
