-- A cluster with the groups that its policies and Egresses name (this project's own).
use Rattle.std.specs.Prelude.{◌≡◌, List, true, Some, option_map}
use Rattle.std.specs.List.{AllByRecursion}
use Rattle.label_select.specs.Group.{Group}
use Rattle.cluster_types.specs.Choice.{egress_counts}
use Rattle.cluster_types.specs.Cluster.{ClusterData}
use Rattle.cluster_types.specs.Egress.{EgressData}
use Rattle.cluster_types.specs.Policy.{PolicyData}
use Rattle.group_index.specs.Index.{EntryData, StandsFor, entry_of}
use Rattle.watch_streams.specs.Projection.{policy_groups}

-- the group has an entry
abbrev pub IsInUse : List EntryData → Group → Type 0
IsInUse groups g = option_map (λ (e : EntryData). e.group) (entry_of groups g) ≡ Some g

-- the groups to which the policy applies are in use, and so are those of its peers
pub record NamesInUse (groups : List EntryData) (p : PolicyData) : Type 0 where
  pub applied : AllByRecursion (IsInUse groups) p.applied
  pub peers : AllByRecursion (IsInUse groups) (policy_groups p)

-- Each group in use has its members at the cluster. Those that the policies name are in use, and so is that of each
-- counting Egress.
pub record IsSide (c : ClusterData) (groups : List EntryData) : Type 0 where
  pub stands : StandsFor groups c
  pub policies : AllByRecursion (NamesInUse groups) c.policies
  pub egresses : AllByRecursion (λ (e : EgressData). egress_counts c e ≡ true → IsInUse groups e.applied) c.egresses
