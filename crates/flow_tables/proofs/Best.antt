-- The first of some items in an order, found by their places in the list.
use Rattle.std.proofs.Common.{◌≡◌, ℕ, zero, suc, ◌<◌, List, [], ◌∷◌, length, get_or, Bool, true, false, Option, None, Some, if◌then◌else◌, refl, sym, ap, ◌∙◌, subst, arith}
use Rattle.std.specs.declared.cmp.Ordering.{Ordering}
use Rattle.std.specs.declared.cmp.Ordering.TheVariants.{Less, Greater}
use Rattle.std.specs.Cmp.{IsTotalOrder}
use Rattle.std.specs.List.{filter}
use Rattle.std.specs.Ordering.{is_gt, ordering_reverse}
use Rattle.cl_types.specs.First.{earlier, first}

module _ {T : Type 0} {order : T → T → Ordering} (o : IsTotalOrder order) (can : T → Bool) (d : T) where
  -- the item at i can be taken, and is before each that can: strictly before those that stand before it
  pub record IsBest (xs : List T) (i : ℕ) : Type 0 where
    pub within : i < length xs
    pub able : can (get_or xs i d) ≡ true
    pub before : (j : ℕ) → j < i → can (get_or xs j d) ≡ true → order (get_or xs i d) (get_or xs j d) ≡ Less
    pub after : (j : ℕ) → i < j → j < length xs → can (get_or xs j d) ≡ true → is_gt (order (get_or xs i d) (get_or xs j d)) ≡ false

  -- the first of those that can is one of the items
  pub record IsItem (xs : List T) (y : T) : Type 0 where
    pub at : ℕ
    pub within : at < length xs
    pub is : get_or xs at d ≡ y
    pub able : can y ≡ true

  further : (x : T) (xs : List T) (y : T) → IsItem xs y → IsItem (x ∷ xs) y
  further x xs y item = record { at = suc item.at; within = omega (arith, item.within); is = item.is; able = item.able }

  abbrev first_able : List T → Option T
  first_able xs = first order (filter can xs)

  pub found_item : (xs : List T) (y : T) → first_able xs ≡ Some y → IsItem xs y
  found_item [] y e = cc
  found_item (x ∷ xs) y e = by_test (found_item xs) (can x) refl (first_able xs) refl e
    where
      by_order : (z : T) → IsItem xs z → can x ≡ true → (g : Bool) → Some (if g then z else x) ≡ Some y → IsItem (x ∷ xs) y
      by_order z item on true e = let one : z ≡ y = cc in further x xs y (subst (λ v. IsItem xs v) one item)
      by_order z item on false e =
          let one : x ≡ y = cc in
          record { at = zero; within = omega arith; is = one; able = subst (λ v. can v ≡ true) one on }

      by_test : ((z : T) → first_able xs ≡ Some z → IsItem xs z) → (b : Bool) → can x ≡ b → (later : Option T) → first_able xs ≡ later → first order (if b then x ∷ filter can xs else filter can xs) ≡ Some y → IsItem (x ∷ xs) y
      by_test later false off rest is e = further x xs y (later y e)
      by_test later true on None is e =
          let same : Some x ≡ Some y = subst (λ l. Some (earlier order x l) ≡ Some y) is e in
          let one : x ≡ y = cc in
          record { at = zero; within = omega arith; is = one; able = subst (λ z. can z ≡ true) one on }
      by_test later true on (Some z) is e = by_order z (later z is) on (is_gt (order x z)) (subst (λ l. Some (earlier order x l) ≡ Some y) is e)

  -- where none can, none is first
  pub none_able : (xs : List T) → ((j : ℕ) → j < length xs → can (get_or xs j d) ≡ false) → first_able xs ≡ None
  none_able [] off = refl
  none_able (x ∷ xs) off = rw (off 0 (omega arith)) (none_able xs (λ j within. off (suc j) (omega arith)))

  -- the best item is the first
  pub best_is_first : (xs : List T) (i : ℕ) → IsBest xs i → first_able xs ≡ Some (get_or xs i d)
  best_is_first [] i best = absurd (omega (arith, best.within))
  best_is_first (x ∷ xs) zero best = rw best.able (by_rest (first_able xs) refl)
    where
      by_rest : (rest : Option T) → first_able xs ≡ rest → Some (earlier order x rest) ≡ Some x
      by_rest None is = refl
      by_rest (Some y) is =
          let item = found_item xs y is in
          let later : is_gt (order x y) ≡ false = subst (λ v. is_gt (order x v) ≡ false) item.is (best.after (suc item.at) (omega arith) (omega (arith, item.within)) (subst (λ v. can v ≡ true) (sym item.is) item.able)) in
          rw later refl
  best_is_first (x ∷ xs) (suc i) best = by_test (can x) refl (best_is_first xs i rest)
    where
      rest : IsBest xs i
      rest = record {
        within = omega (arith, best.within);
        able = best.able;
        before = λ j lt on. best.before (suc j) (omega arith) on;
        after = λ j gt within on. best.after (suc j) (omega arith) (omega arith) on;
      }

      by_test : (b : Bool) → can x ≡ b → first_able xs ≡ Some (get_or xs i d) → first order (if b then x ∷ filter can xs else filter can xs) ≡ Some (get_or xs i d)
      by_test false off later = later
      by_test true on later =
          let less : order (get_or xs i d) x ≡ Less = best.before 0 (omega arith) on in
          let greater : order x (get_or xs i d) ≡ Greater = o.antisymm x (get_or xs i d) ∙ ap ordering_reverse less in
          rw (later, greater) refl
