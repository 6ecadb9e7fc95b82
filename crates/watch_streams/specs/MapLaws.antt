-- The map of some objects: what stands at each name, and that a map is that of its own objects.
use Rattle.std.proofs.Common.{◌≡◌, ℕ, List, [], ◌∷◌, Option, Some, None, if◌then◌else◌, refl, ap, ◌∙◌}
use Rattle.std.specs.List.{AllByRecursion}
use Rattle.std.specs.declared.cmp.Ordering.{Ordering}
use Rattle.std.specs.declared.cmp.Ordering.TheVariants.{Less, Equal, Greater}
use Rattle.std.specs.Ordering.{is_eq, match_ordering}
use Rattle.std.proofs.lemmas.Cmp.{nat_list_cmp_total}
use Rattle.cl_types.specs.Ascending.{found}
use Rattle.cl_types.specs.AscendingLaws.{ascends_sorted, all_sorted, found_put, equal_maps, none_behind}
use Rattle.cl_types.specs.Text.{text_order, text_order_total}
use Rattle.watch_streams.specs.declared.message.StreamObject.{StreamObject}
use Rattle.watch_streams.specs.Names.{object_text, at_text, by_name, AscendByName}

-- the first object of a name
abbrev pub first_at : List ℕ → List StreamObject → Option StreamObject
first_at t [] = None
first_at t (o ∷ os) = if is_eq (text_order (object_text o) t) then Some o else first_at t os

pub ascends_by_name : (os : List StreamObject) → AscendByName (by_name os)
ascends_by_name = ascends_sorted object_text text_order_total

-- what holds of all objects holds of all of their map
pub all_by_name : (P : StreamObject → Type 0) (os : List StreamObject) → AllByRecursion P os → AllByRecursion P (by_name os)
all_by_name = all_sorted object_text text_order

pub found_by_name : (t : List ℕ) (os : List StreamObject) → found (at_text t) (by_name os) ≡ first_at t os
found_by_name t [] = refl
found_by_name t (o ∷ os) =
    found_put object_text nat_list_cmp_total t o (by_name os)
    ∙ ap (λ x. if is_eq (text_order (object_text o) t) then Some o else x) (found_by_name t os)

-- in an ascending list the first object of a name is the one that is found
pub first_is_found : (t : List ℕ) (os : List StreamObject) → AscendByName os → first_at t os ≡ found (at_text t) os
first_is_found t [] up = refl
first_is_found t (o ∷ os) up = by_order (text_order (object_text o) t) refl (first_is_found t os up.1)
  where
    by_order : (r : Ordering) → text_order (object_text o) t ≡ r → first_at t os ≡ found (at_text t) os
        → (if is_eq r then Some o else first_at t os) ≡ match_ordering r (found (at_text t) os) (Some o) None
    by_order Less is rest = rest
    by_order Equal is rest = refl
    by_order Greater is rest = rest ∙ none_behind object_text nat_list_cmp_total t o os Greater is (λ q. cc) up.0

-- a map is that of its own objects
pub map_of_itself : (os : List StreamObject) → AscendByName os → by_name os ≡ os
map_of_itself os up =
    equal_maps object_text nat_list_cmp_total (by_name os) os (ascends_by_name os) up (λ t. found_by_name t os ∙ first_is_found t os up)
