-- Changes that are tried and taken back (this project's own).
use Rattle.std.specs.Prelude.{◌≡◌, List, [], ◌∷◌, Bool, false, Result, Ok, Err}
use Rattle.cluster_types.specs.declared.change.Change.{Change}
use Rattle.cluster_types.specs.Cluster.{ClusterData, HasPlaces, IsCluster, Places}
use Rattle.cluster_objects.specs.declared.change.ClusterRefusal.{ClusterRefusal}
use Rattle.cluster_objects.specs.declared.change.ClusterRefusal.TheVariants.{NoMemory}
use Rattle.cluster_objects.specs.declared.change.Undo.{Undo}
use Rattle.cluster_objects.specs.Changes.{after, taken_back}
use Rattle.ctl_core.specs.Line.{came, came_to}

-- Changes can be taken back in this order: each leaves a cluster for which there are places.
abbrev pub CanTakeBack : List Undo → ClusterData → Places → Type 0
CanTakeBack [] c places = Unit {0}
CanTakeBack (u ∷ us) c places = IsCluster (taken_back c u) × HasPlaces (taken_back c u) places × CanTakeBack us (taken_back c u) places

-- What a call foretold is what the changes come to, as far as memory went. Without a difference the cluster is the same.
abbrev pub Foretells : List Change → ClusterData → Result Bool ClusterRefusal → Type 0
Foretells changes c (Ok differs) = (new : ClusterData) × (came (after c changes) ≡ Ok (came_to new differs)) × (differs ≡ false → new ≡ c)
Foretells changes c (Err NoMemory) = Unit {0}
Foretells changes c (Err refusal) = came (after c changes) ≡ Err refusal

-- the changes lead from the one cluster to the other
pub record Leads (changes : List Change) (old new : ClusterData) : Type 0 where
  pub differs : Bool
  pub made : came (after old changes) ≡ Ok (came_to new differs)
