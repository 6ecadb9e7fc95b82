-- No name comes twice where the texts of names ascend.
use Rattle.std.proofs.Common.{◌≡◌, ◌≢◌, ℕ, List, [], ◌∷◌, ◌++◌, map, refl, ap, ◌∙◌}
use Rattle.std.specs.List.{AllByRecursion, flat_map}
use Rattle.std.specs.declared.cmp.Ordering.TheVariants.{Less}
use Rattle.std.proofs.lemmas.Cmp.{nat_list_cmp_total, tied_itself}
use Rattle.cl_types.specs.Ascending.{found}
use Rattle.watch_streams.specs.declared.message.StreamChange.{StreamChange}
use Rattle.watch_streams.specs.declared.message.StreamName.{StreamName}
use Rattle.watch_streams.specs.declared.message.StreamObject.{StreamObject}
use Rattle.watch_streams.specs.Difference.{changed}
use Rattle.watch_streams.specs.Laws.{DifferencesNameOnce, MapsNameOnce}
use Rattle.cl_types.specs.Text.{text_order}
use Rattle.watch_streams.specs.Names.{AreDistinct, AscendByName, at_text, by_name, changed_name, name_of, name_text, object_text}
use Rattle.watch_streams.specs.ChangeLaws.{IsAt}
use Rattle.watch_streams.specs.MapLaws.{ascends_by_name}
use Rattle.watch_streams.proofs.Differences.{changed_at, found_text}

-- every name's text is after this one
abbrev AllAfter : List ℕ → List StreamName → Type 0
AllAfter u = AllByRecursion (λ n. text_order u (name_text n) ≡ Less)

not_itself : (n m : StreamName) → text_order (name_text n) (name_text m) ≡ Less → n ≢ m
not_itself n m less same = let tied = tied_itself nat_list_cmp_total (name_text n) in let there = ap (λ z. text_order (name_text n) (name_text z)) same in cc

differ_from : (n : StreamName) (names : List StreamName) → AllAfter (name_text n) names → AllByRecursion (λ m. n ≢ m) names
differ_from n [] h = tt
differ_from n (m ∷ names) h = (not_itself n m h.0, differ_from n names h.1)

objects_after : (u : List ℕ) (os : List StreamObject) → AllByRecursion (λ o. text_order u (object_text o) ≡ Less) os → AllAfter u (map name_of os)
objects_after u [] h = tt
objects_after u (o ∷ os) h = (h.0, objects_after u os h.1)

pub maps_name_once : MapsNameOnce
maps_name_once [] up = tt
maps_name_once (o ∷ os) up = (differ_from (name_of o) (map name_of os) (objects_after (object_text o) os up.0), maps_name_once os up.1)

module _ (changes : List ℕ → List StreamChange) (each : (u : List ℕ) → IsAt u (changes u)) where
  changes_after : (u : List ℕ) (os : List StreamObject) → AllByRecursion (λ o. text_order u (object_text o) ≡ Less) os
      → AllAfter u (map changed_name (flat_map changes (map object_text os)))
  changes_after u [] h = tt
  changes_after u (o ∷ os) h = after_some (changes (object_text o)) (each (object_text o)) (changes_after u os h.1)
    where
      after_some : (cs : List StreamChange) → IsAt (object_text o) cs → AllAfter u (map changed_name (flat_map changes (map object_text os)))
          → AllAfter u (map changed_name (cs ++ flat_map changes (map object_text os)))
      after_some [] is rest = rest
      after_some (c ∷ []) is rest = (ap (text_order u) is ∙ h.0, rest)
      after_some (c ∷ d ∷ cs) is rest = absurd is

  name_once : (os : List StreamObject) → AscendByName os → AreDistinct (map changed_name (flat_map changes (map object_text os)))
  name_once [] up = tt
  name_once (o ∷ os) up = once_more (changes (object_text o)) (each (object_text o)) (name_once os up.1)
    where
      once_more : (cs : List StreamChange) → IsAt (object_text o) cs → AreDistinct (map changed_name (flat_map changes (map object_text os)))
          → AreDistinct (map changed_name (cs ++ flat_map changes (map object_text os)))
      once_more [] is rest = rest
      once_more (c ∷ []) is rest =
          (differ_from (changed_name c) (map changed_name (flat_map changes (map object_text os))) (rw is (changes_after (object_text o) os up.0)), rest)
      once_more (c ∷ d ∷ cs) is rest = absurd is

pub differences_name_once : DifferencesNameOnce
differences_name_once old new up vp =
    name_once (λ t. changed (found (at_text t) old) (found (at_text t) new))
    (λ t. changed_at t (found (at_text t) old) (found (at_text t) new) (found_text t old (found (at_text t) old) refl) (found_text t new (found (at_text t) new) refl))
    (by_name (old ++ new)) (ascends_by_name (old ++ new))
