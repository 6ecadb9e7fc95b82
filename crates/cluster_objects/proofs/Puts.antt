-- How long a list is after a put, and what its items have together.
use Rattle.std.proofs.Common.{◌≡◌, ◌+◌, ℕ, suc, Bool, true, not, ◌||◌, if◌then◌else◌, List, [], ◌∷◌, length, Some, None, refl, sym, ap, ◌∙◌, arith}
use Rattle.std.specs.declared.cmp.Ordering.{Ordering}
use Rattle.std.specs.declared.cmp.Ordering.TheVariants.{Less, Equal, Greater}
use Rattle.std.specs.Cmp.{IsTotalOrder}
use Rattle.std.specs.List.{AllByRecursion, list_any}
use Rattle.std.specs.Ordering.{match_ordering, is_eq, ordering_reverse}
use Rattle.cl_types.specs.Ascending.{Ascends, found, put, without}
use Rattle.cl_types.specs.ListLaws.{all_weaker, filter_all, or_swap}
use Rattle.cluster_types.specs.Counts.{total}

module _ {T : Type 0} (at : T → Ordering) (x : T) where
  -- a put at a key where nothing stands makes the list longer by one
  pub put_longer : (xs : List T) → found at xs ≡ None → length (put at x xs) ≡ suc (length xs)
  put_longer [] none = refl
  put_longer (y ∷ ys) none = by_place (at y) none (put_longer ys)
    where
      by_place : (r : Ordering) → match_ordering r (found at ys) (Some y) None ≡ None → (found at ys ≡ None → length (put at x ys) ≡ suc (length ys))
          → length (match_ordering r (y ∷ put at x ys) (x ∷ ys) (x ∷ y ∷ ys)) ≡ suc (suc (length ys))
      by_place Less f rest = ap suc (rest f)
      by_place Equal f rest = cc
      by_place Greater f rest = refl

  -- a put in place of what stood there leaves the list as long
  pub put_as_long : (xs : List T) (y : T) → found at xs ≡ Some y → length (put at x xs) ≡ length xs
  put_as_long [] y e = cc
  put_as_long (z ∷ zs) y e = by_place (at z) e (put_as_long zs y)
    where
      by_place : (r : Ordering) → match_ordering r (found at zs) (Some z) None ≡ Some y → (found at zs ≡ Some y → length (put at x zs) ≡ length zs)
          → length (match_ordering r (z ∷ put at x zs) (x ∷ zs) (x ∷ z ∷ zs)) ≡ suc (length zs)
      by_place Less f rest = ap suc (rest f)
      by_place Equal f rest = refl
      by_place Greater f rest = cc

-- once an item is put, there are it and those at other keys
module _ {T K : Type 0} (key : T → K) {cmp : K → K → Ordering} (o : IsTotalOrder cmp) (x : T) where
  abbrev at_x : T → Ordering
  at_x y = cmp (key y) (key x)

  -- behind an item that isn't before x none is at the key of x
  all_behind : (y : T) (ys : List T) → (cmp (key y) (key x) ≡ Less → ⊥) → AllByRecursion (λ z. cmp (key y) (key z) ≡ Less) ys → without at_x ys ≡ ys
  all_behind y ys not_less behind = filter_all (λ z. not (is_eq (at_x z))) ys (all_weaker _ _ other ys behind)
    where
      other : (z : T) → cmp (key y) (key z) ≡ Less → not (is_eq (at_x z)) ≡ true
      other z less = by_order (cmp (key z) (key x)) refl
        where
          by_order : (r : Ordering) → cmp (key z) (key x) ≡ r → not (is_eq r) ≡ true
          by_order Less is = refl
          by_order Equal is =
              let back : cmp (key y) (key x) ≡ cmp (key y) (key z) = o.antisymm (key y) (key x) ∙ ap ordering_reverse (sym (o.congr (key z) (key x) (key y) is)) ∙ sym (o.antisymm (key y) (key z)) in
              absurd (not_less (back ∙ less))
          by_order Greater is = refl

  equal-less : Equal ≡ Less → ⊥
  equal-less e = cc

  greater-less : Greater ≡ Less → ⊥
  greater-less e = cc

  pub total_put_at : (count : T → ℕ) (ys : List T) → Ascends key cmp ys → total count (put at_x x ys) ≡ count x + total count (without at_x ys)
  total_put_at count [] up = refl
  total_put_at count (y ∷ ys) up = by_place (at_x y) refl (total_put_at count ys up.1)
    where
      by_place : (r : Ordering) → at_x y ≡ r → total count (put at_x x ys) ≡ count x + total count (without at_x ys)
          → total count (match_ordering r (y ∷ put at_x x ys) (x ∷ ys) (x ∷ y ∷ ys)) ≡ count x + total count (if not (is_eq r) then y ∷ without at_x ys else without at_x ys)
      by_place Less is rest = omega (arith, rest)
      by_place Equal is rest = ap (λ zs. count x + total count zs) (sym (all_behind y ys (λ e. equal-less (sym is ∙ e)) up.0))
      by_place Greater is rest = ap (λ zs. count x + (count y + total count zs)) (sym (all_behind y ys (λ e. greater-less (sym is ∙ e)) up.0))

  -- some item passes where it does, or one at another key
  pub any_put : (p : T → Bool) (ys : List T) → Ascends key cmp ys → list_any p (put at_x x ys) ≡ (p x || list_any p (without at_x ys))
  any_put p [] up = refl
  any_put p (y ∷ ys) up = by_place (at_x y) refl (any_put p ys up.1)
    where
      by_place : (r : Ordering) → at_x y ≡ r → list_any p (put at_x x ys) ≡ (p x || list_any p (without at_x ys))
          → list_any p (match_ordering r (y ∷ put at_x x ys) (x ∷ ys) (x ∷ y ∷ ys)) ≡ (p x || list_any p (if not (is_eq r) then y ∷ without at_x ys else without at_x ys))
      by_place Less is rest = ap (λ b. p y || b) rest ∙ or_swap (p y) (p x) (list_any p (without at_x ys))
      by_place Equal is rest = ap (λ zs. p x || list_any p zs) (sym (all_behind y ys (λ e. equal-less (sym is ∙ e)) up.0))
      by_place Greater is rest = ap (λ zs. p x || (p y || list_any p zs)) (sym (all_behind y ys (λ e. greater-less (sym is ∙ e)) up.0))

-- what all have together once an item is put is what it has, and what those at other keys have
pub total_put : {T K : Type 0} (key : T → K) {cmp : K → K → Ordering} (o : IsTotalOrder cmp) (count : T → ℕ) (x : T) (ys : List T) → Ascends key cmp ys
    → total count (put (λ y. cmp (key y) (key x)) x ys) ≡ count x + total count (without (λ y. cmp (key y) (key x)) ys)
total_put key o count x ys up = total_put_at key o x count ys up
