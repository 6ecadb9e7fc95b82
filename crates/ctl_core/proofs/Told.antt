-- What is told under the names that changes touch.
use Rattle.std.proofs.Common.{◌≡◌, ℕ, List, [], ◌∷◌, ◌++◌, map, refl, sym, ap, ap₂, subst, ◌∙◌}
use Rattle.std.specs.List.{AllByRecursion, flat_map}
use Rattle.cl_types.specs.declared.stream.Stream.{Stream}
use Rattle.cluster_types.specs.Cluster.{ClusterData, IsCluster}
use Rattle.group_index.specs.Index.{EntryData}
use Rattle.watch_streams.specs.declared.message.StreamChange.{StreamChange}
use Rattle.watch_streams.specs.declared.message.StreamName.{StreamName}
use Rattle.watch_streams.specs.declared.message.StreamName.TheVariants as name
use Rattle.watch_streams.specs.Difference.{changed, difference}
use Rattle.watch_streams.specs.Projection.{projection}
use Rattle.touched_names.specs.Elsewhere.{TouchedNamesTellAll}
use Rattle.touched_names.specs.Standing.{standing}
use Rattle.node_objects.specs.declared.touched.TouchedName.{TouchedName}
use Rattle.node_objects.specs.Touched.{IsTouched, touched_name}
use Rattle.ctl_core.specs.Touched.{AreToldOf, AreTouched, changed_under}
use Rattle.ctl_core.proofs.Touches.{told_all}

over_names : (f : StreamName → List StreamChange) (touched : List TouchedName) → flat_map (λ (t : TouchedName). f t.name) touched ≡ flat_map f (map (λ (t : TouchedName). t.name) touched)
over_names f [] = refl
over_names f (t ∷ ts) = ap (λ xs. f t.name ++ xs) (over_names f ts)

module _ (c : ClusterData) (old : List EntryData) (d : ClusterData) (new : List EntryData) where
  -- what changes under the names is all that changes
  pub told_under : TouchedNamesTellAll → (touched : List TouchedName) (s : Stream) (node : List ℕ) → IsCluster c → IsCluster d → AreToldOf c old d new touched
      → flat_map (changed_under c d s node) touched ≡ difference (projection c s node) (projection d s node)
  told_under law touched s node whole after told =
      over_names (λ n. changed (standing c s node n) (standing d s node n)) touched ∙ told_all law (map (λ (t : TouchedName). t.name) touched) c d s node whole after told.names

  name_kept : (n : StreamName) → (touched_name c old d new n).name ≡ n
  name_kept (name.Policy key) = refl
  name_kept (name.Egress text) = refl
  name_kept (name.Group g) = refl

  names_kept : (names : List StreamName) → map (λ (t : TouchedName). t.name) (map (touched_name c old d new) names) ≡ names
  names_kept [] = refl
  names_kept (n ∷ ns) = ap₂ (λ x xs. x ∷ xs) (name_kept n) (names_kept ns)

  is_touched : (n : StreamName) → IsTouched c old d new (touched_name c old d new n)
  is_touched (name.Policy key) = refl
  is_touched (name.Egress text) = refl
  is_touched (name.Group g) = refl

  each_touched : (names : List StreamName) → AllByRecursion (IsTouched c old d new) (map (touched_name c old d new) names)
  each_touched [] = tt
  each_touched (n ∷ ns) = (is_touched n, each_touched ns)

  -- the names that tell all, each with what is in common for all nodes
  pub are_told_of : (names : List StreamName) (touched : List TouchedName) → touched ≡ map (touched_name c old d new) names → AreTouched names c d → AreToldOf c old d new touched
  are_told_of names touched is of =
      subst (AreToldOf c old d new) (sym is) (record { names = subst (λ ns. AreTouched ns c d) (sym (names_kept names)) of; each = each_touched names })
