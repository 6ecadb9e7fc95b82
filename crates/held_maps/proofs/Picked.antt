-- Of a map the objects of one kind: they ascend, and each is found where it stands in the map.
use Rattle.std.proofs.Common.{◌≡◌, ℕ, List, [], ◌∷◌, ◌++◌, flat_map, Option, Some, None, refl, sym, ap, subst, ◌∙◌}
use Rattle.std.specs.List.{AllByRecursion}
use Rattle.std.specs.Option.{option_to_list}
use Rattle.std.specs.declared.cmp.Ordering.{Ordering}
use Rattle.std.specs.declared.cmp.Ordering.TheVariants.{Less, Equal, Greater}
use Rattle.std.specs.Ordering.{match_ordering}
use Rattle.std.proofs.lemmas.Cmp.{nat_list_cmp_total}
use Rattle.cl_types.specs.Ascending.{Ascends, found}
use Rattle.cl_types.specs.AscendingLaws.{none_behind}
use Rattle.cl_types.specs.Text.{text_order}
use Rattle.watch_streams.specs.declared.message.StreamObject.{StreamObject}
use Rattle.watch_streams.specs.Names.{object_text, at_text, AscendByName}

module _ {T : Type 0} (title : T → List ℕ) (part : StreamObject → Option T) (named : (o : StreamObject) (x : T) → part o ≡ Some x → object_text o ≡ title x) where
  abbrev pub picked : List StreamObject → List T
  picked os = flat_map (λ o. option_to_list (part o)) os

  abbrev pub part_of : Option StreamObject → Option T
  part_of None = None
  part_of (Some o) = part o

  abbrev pub at : List ℕ → T → Ordering
  at t x = text_order (title x) t

  all_picked : (P : List ℕ → Type 0) (os : List StreamObject) → AllByRecursion (λ o. P (object_text o)) os → AllByRecursion (λ x. P (title x)) (picked os)
  all_picked P [] all = tt
  all_picked P (o ∷ os) all = by_part (part o) refl (all_picked P os all.1)
    where
      by_part : (y : Option T) → part o ≡ y → AllByRecursion (λ x. P (title x)) (picked os) → AllByRecursion (λ x. P (title x)) (option_to_list y ++ picked os)
      by_part None is rest = rest
      by_part (Some x) is rest = (subst P (named o x is) all.0, rest)

  pub picked_ascend : (os : List StreamObject) → AscendByName os → Ascends title text_order (picked os)
  picked_ascend [] up = tt
  picked_ascend (o ∷ os) up = by_part (part o) refl (picked_ascend os up.1)
    where
      by_part : (y : Option T) → part o ≡ y → Ascends title text_order (picked os) → Ascends title text_order (option_to_list y ++ picked os)
      by_part None is rest = rest
      by_part (Some x) is rest =
          (subst (λ u. AllByRecursion (λ z. text_order u (title z) ≡ Less) (picked os)) (named o x is) (all_picked (λ u. text_order (object_text o) u ≡ Less) os up.0), rest)

  pub found_picked : (t : List ℕ) (os : List StreamObject) → AscendByName os → found (at t) (picked os) ≡ part_of (found (at_text t) os)
  found_picked t [] up = refl
  found_picked t (o ∷ os) up = by_part (part o) refl (found_picked t os up.1)
    where
      behind : found (at t) (picked os) ≡ part_of (found (at_text t) os) → (r : Ordering) → at_text t o ≡ r → (r ≡ Less → ⊥) → found (at t) (picked os) ≡ None
      behind rest r is not = rest ∙ ap part_of (none_behind object_text nat_list_cmp_total t o os r is not up.0)

      none_here : (r : Ordering) → at_text t o ≡ r → part o ≡ None → found (at t) (picked os) ≡ part_of (found (at_text t) os)
          → found (at t) (picked os) ≡ part_of (match_ordering r (found (at_text t) os) (Some o) None)
      none_here Less is none rest = rest
      none_here Equal is none rest = behind rest Equal is (λ q. cc) ∙ sym none
      none_here Greater is none rest = behind rest Greater is (λ q. cc)

      one_here : (r : Ordering) (x : T) → part o ≡ Some x → found (at t) (picked os) ≡ part_of (found (at_text t) os)
          → match_ordering r (found (at t) (picked os)) (Some x) None ≡ part_of (match_ordering r (found (at_text t) os) (Some o) None)
      one_here Less x one rest = rest
      one_here Equal x one rest = sym one
      one_here Greater x one rest = refl

      by_part : (y : Option T) → part o ≡ y → found (at t) (picked os) ≡ part_of (found (at_text t) os)
          → found (at t) (option_to_list y ++ picked os) ≡ part_of (match_ordering (at_text t o) (found (at_text t) os) (Some o) None)
      by_part None is rest = none_here (at_text t o) refl is rest
      by_part (Some x) is rest =
          ap (λ u. match_ordering (text_order u t) (found (at t) (picked os)) (Some x) None) (sym (named o x is)) ∙ one_here (at_text t o) x is rest
