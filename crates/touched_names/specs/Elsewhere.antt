-- Where two clusters have the same on every stream but under some names, and what follows (this project's own).
use Rattle.std.specs.Prelude.{◌≡◌, ℕ, List, [], ◌++◌, Bool, false}
use Rattle.std.specs.List.{AllByRecursion, flat_map, list_any}
use Rattle.std.specs.Ordering.{is_eq}
use Rattle.cl_types.specs.declared.stream.Stream.{Stream}
use Rattle.cl_types.specs.Ascending.{found, sorted_by}
use Rattle.cl_types.specs.Text.{text_order}
use Rattle.cluster_types.specs.Cluster.{ClusterData, IsCluster}
use Rattle.watch_streams.specs.declared.message.StreamChange.{StreamChange}
use Rattle.watch_streams.specs.declared.message.StreamName.{StreamName}
use Rattle.watch_streams.specs.Difference.{changed, difference}
use Rattle.watch_streams.specs.Names.{at_text, name_text}
use Rattle.watch_streams.specs.Projection.{projection}
use Rattle.touched_names.specs.Standing.{IsName, standing}

-- one of the names has this text
abbrev pub is_named : List StreamName → List ℕ → Bool
is_named names text = list_any (λ n. is_eq (text_order (name_text n) text)) names

-- under each text that none of the names has, the same stands at both clusters, on each stream of each node
pub record SameElsewhere (touched : List StreamName) (c d : ClusterData) : Type 0 where
  pub same : (s : Stream) (node text : List ℕ) → is_named touched text ≡ false → found (at_text text) (projection c s node) ≡ found (at_text text) (projection d s node)

-- ---- what changes

-- names in the order of their texts, none twice
abbrev pub names_by_text : List StreamName → List StreamName
names_by_text = sorted_by name_text text_order

-- what changes under these names on a stream of a node, in their order
abbrev pub changes_under : ClusterData → ClusterData → Stream → List ℕ → List StreamName → List StreamChange
changes_under c d s node names = flat_map (λ n. changed (standing c s node n) (standing d s node n)) names

-- what changes on a stream is what changes under the names that are touched
abbrev pub TouchedNamesTellAll : Type 0
TouchedNamesTellAll =
    (touched : List StreamName) (c d : ClusterData) (s : Stream) (node : List ℕ) → IsCluster c → IsCluster d → AllByRecursion IsName touched →
    SameElsewhere touched c d → difference (projection c s node) (projection d s node) ≡ changes_under c d s node (names_by_text touched)

-- ---- one change and another

abbrev pub NothingIsTouchedAtFirst : Type 0
NothingIsTouchedAtFirst = (c : ClusterData) → SameElsewhere [] c c

abbrev pub TouchedNamesJoin : Type 0
TouchedNamesJoin =
    (xs ys : List StreamName) (c d e : ClusterData) → SameElsewhere xs c d → SameElsewhere ys d e → SameElsewhere (xs ++ ys) c e
