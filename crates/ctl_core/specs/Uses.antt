-- How often groups are named and in use (this project's own).
use Rattle.std.specs.Prelude.{◌≡◌, ℕ, ◌+◌, ◌≤◌, List, [], ◌∷◌, Option, Some, None, if◌then◌else◌}
use Rattle.std.specs.Option.{option_map_or}
use Rattle.std.specs.Ordering.{is_eq}
use Rattle.cl_types.specs.Text.{text_order}
use Rattle.label_select.specs.Group.{Group}
use Rattle.label_select.specs.Written.{group_text}
use Rattle.cluster_types.specs.declared.change.Change.{Change}
use Rattle.cluster_types.specs.declared.change.Change.TheVariants.{Put, Remove}
use Rattle.cluster_types.specs.declared.change.Object.{Object}
use Rattle.cluster_types.specs.declared.change.Object.TheVariants as object
use Rattle.cluster_types.specs.Cluster.{ClusterData}
use Rattle.cluster_types.specs.Counts.{total}
use Rattle.group_index.specs.Index.{EntryData, StandsFor, entry_of}
use Rattle.touched_names.specs.Touching.{counting_group, groups_named, named_groups}
use Rattle.ctl_core.specs.Naming.{AreGroups}

-- ---- counts

-- the other group counts once where it has the text of this one
abbrev pub once : Group → Group → ℕ
once g other = if is_eq (text_order (group_text other) (group_text g)) then 1 else 0

-- how often the group is among these
abbrev pub times : Group → List Group → ℕ
times g groups = total (once g) groups

abbrev pub uses_in : Option EntryData → ℕ
uses_in None = 0
uses_in (Some e) = e.uses

-- how often the group is in use
abbrev pub uses_of : List EntryData → Group → ℕ
uses_of index g = uses_in (entry_of index g)

-- Each group in use has its members at the cluster. Each group is in use as often as the policies and counting Egresses
-- name it.
pub record IsCounted (c : ClusterData) (index : List EntryData) : Type 0 where
  pub stands : StandsFor index c
  pub groups : AreGroups index
  pub uses : (g : Group) → uses_of index g ≡ times g (named_groups c)

-- the cluster and its groups in use are the same
pub record IsSameSide (c : ClusterData) (index : List EntryData) (d : ClusterData) (other : List EntryData) : Type 0 where
  pub cluster : d ≡ c
  pub groups : other ≡ index

-- ---- what one object names

abbrev pub named_by : ClusterData → Object → List Group
named_by c (object.Policy p) = groups_named p
named_by c (object.Egress e) = counting_group c e
named_by c _ = []

abbrev pub named_if_any : ClusterData → Option Object → List Group
named_if_any c o = option_map_or (named_by c) o []

-- the object that stands at the change's key once it is made, where one does
abbrev pub new_object : Change → Option Object
new_object (Put o) = Some o
new_object (Remove k) = None

-- ---- uses that change

-- each of the groups is in use once more, with its members at the cluster
pub record IsUsedMore (c : ClusterData) (groups : List Group) (old new : List EntryData) : Type 0 where
  pub stands : StandsFor new c
  pub forms : AreGroups new
  pub uses : (g : Group) → uses_of new g ≡ uses_of old g + times g groups

-- each of the groups is in use once less
pub record IsUsedLess (groups : List Group) (old new : List EntryData) : Type 0 where
  pub stands : (c : ClusterData) → StandsFor old c → StandsFor new c
  pub forms : AreGroups old → AreGroups new
  pub uses : (g : Group) → uses_of new g + times g groups ≡ uses_of old g

-- the index counts what was named before the one object took the other's place
abbrev pub CountsBefore : ClusterData → Option Object → Option Object → List EntryData → Type 0
CountsBefore c old new index =
    (g : Group) → times g (named_groups c) + times g (named_if_any c old) ≡ uses_of index g + times g (named_if_any c new)
