-- Two lists in which each thing stands before those after it are one where they have the same things.
use Rattle.std.proofs.Common.{◌≡◌, ℕ, zero, suc, ◌<◌, List, [], ◌∷◌, length, get_or, ◌⊎◌, inl, inr, refl, sym, subst, ◌∙◌, arith}
use Rattle.std.specs.List.{AllPairs, Contains}

module _ {T : Type 0} where
  contains_first : (x : T) (xs : List T) → Contains (x ∷ xs) x
  contains_first x xs = (0, omega arith, refl)

  contains_later : (x y : T) (xs : List T) → Contains xs y → Contains (x ∷ xs) y
  contains_later x y xs c = let within : c.0 < length xs = c.1 in (suc c.0, omega arith, c.2)

  contains_none : (y : T) → Contains [] y → ⊥
  contains_none y c = let within : c.0 < 0 = c.1 in omega arith

  contains_cases : (x y : T) (xs : List T) → Contains (x ∷ xs) y → (x ≡ y) ⊎ Contains xs y
  contains_cases x y xs c = by_place c.0 c.1 c.2
    where
      by_place : (k : ℕ) → k < length (x ∷ xs) → get_or (x ∷ xs) k y ≡ y → (x ≡ y) ⊎ Contains xs y
      by_place zero within is = inl is
      by_place (suc k) within is = let less : k < length xs = omega arith in inr (k, less, is)

module _ {T : Type 0} (R : T → T → Type 0) (one_way : (x y : T) → R x y → R y x → ⊥) where
  pairs_behind : (x : T) (xs : List T) → AllPairs R (x ∷ xs) → AllPairs R xs
  pairs_behind x xs pairs = λ i j d lt within. pairs (suc i) (suc j) d (omega arith) (omega arith)

  first_before : (x y : T) (xs : List T) → AllPairs R (x ∷ xs) → Contains xs y → R x y
  first_before x y xs pairs c =
      let P : T → Type 0 = R x in
      let within : c.0 < length xs = c.1 in
      subst P c.2 (pairs zero (suc c.0) y (omega arith) (omega arith))

  first_same : (x y : T) (xs ys : List T) → AllPairs R (x ∷ xs) → AllPairs R (y ∷ ys) → (x ≡ y) ⊎ Contains xs y → (y ≡ x) ⊎ Contains ys x → x ≡ y
  first_same x y xs ys up down (inl is) there = is
  first_same x y xs ys up down (inr here) (inl is) = sym is
  first_same x y xs ys up down (inr here) (inr there) = absurd (one_way x y (first_before x y xs up here) (first_before y x ys down there))

  -- what stands behind the one first thing stands behind it in the other list too
  rest_there : (x y z : T) (xs ys : List T) → AllPairs R (x ∷ xs) → x ≡ y → Contains xs z → (y ≡ z) ⊎ Contains ys z → Contains ys z
  rest_there x y z xs ys up one here (inr there) = there
  rest_there x y z xs ys up one here (inl is) =
      let P : T → Type 0 = λ u. R x u in
      let self = subst P (sym is ∙ sym one) (first_before x z xs up here) in
      absurd (one_way x x self self)

  pub same_list : (xs ys : List T) → AllPairs R xs → AllPairs R ys → ((z : T) → Contains xs z → Contains ys z) → ((z : T) → Contains ys z → Contains xs z) → xs ≡ ys
  same_list [] [] up down to from = refl
  same_list [] (y ∷ ys) up down to from = absurd (contains_none y (from y (contains_first y ys)))
  same_list (x ∷ xs) [] up down to from = absurd (contains_none x (to x (contains_first x xs)))
  same_list (x ∷ xs) (y ∷ ys) up down to from =
      let one = first_same x y xs ys up down (contains_cases x y xs (from y (contains_first y ys))) (contains_cases y x ys (to x (contains_first x xs))) in
      let rest =
      same_list xs ys (pairs_behind x xs up) (pairs_behind y ys down)
      (λ z here. rest_there x y z xs ys up one here (contains_cases y z ys (to z (contains_later x z xs here))))
      (λ z here. rest_there y x z ys xs down (sym one) here (contains_cases x z xs (from z (contains_later y z ys here)))) in
      cc
