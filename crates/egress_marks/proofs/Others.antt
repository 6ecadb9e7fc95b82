-- What each address has once one address took a mark or gave its own back.
use Rattle.std.proofs.Common.{◌≡◌, ◌≢◌, ℕ, zero, suc, ◌+◌, ◌<◌, ◌≤◌, List, [], ◌∷◌, length, set, get_or, map, cond, Bool, true, false, not, Option, Some, None, is_some, is_none, count_by, position, IsSome, IsNone, ltb, refl, sym, ap, ◌∙◌, arith}
use Rattle.std.specs.List.{position_or_len}
use Rattle.std.specs.Option.{option_map}
use Rattle.std.proofs.lemmas.Bool.{ltb-true, lt-ltb, le-ltb}
use Rattle.std.proofs.lemmas.List.{length-set, length-map}
use Rattle.std.proofs.lemmas.List.Sums.{sum_by-cons, sum_by-set, passes_at_first}
use Rattle.cl_types.specs.declared.addr.Addr.{Addr}
use Rattle.cl_types.specs.Addr.{addr_eq}
use Rattle.cl_types.specs.AddrEq.{addr_eq-one}
use Rattle.egress_marks.specs.Places.{is_held_by, mark_of, freed, IsMarks}
use Rattle.egress_marks.proofs.Marked.{same_holder, none_is, no_position}

-- ---- first places

abbrev place : ℕ → ℕ → Option ℕ
place i n = option_map (λ (k : ℕ). k + 1) (cond (ltb i n) (Some i) None)

module _ {X : Type 0} (p : X → Bool) where
  -- in a list where none passes, the one that is set is the first
  set_first : (xs : List X) (i : ℕ) (x : X) → i < length xs → length xs ≤ position_or_len p xs → p x ≡ true → position_or_len p (set xs i x) ≡ i
  set_first [] i x within none is = absurd (omega arith)
  set_first (y ∷ ys) zero x within none is = ap (λ b. cond (not b) (1 + position_or_len p ys) 0) is
  set_first (y ∷ ys) (suc i) x within none is = by_test (p y) refl none (set_first ys i x (omega arith))
    where
      by_test : (b : Bool) → p y ≡ b → length (y ∷ ys) ≤ cond (not b) (1 + position_or_len p ys) 0 → (length ys ≤ position_or_len p ys → p x ≡ true → position_or_len p (set ys i x) ≡ i) → cond (not b) (1 + position_or_len p (set ys i x)) 0 ≡ suc i
      by_test true e n rest = absurd (omega (arith, n))
      by_test false e n rest = omega (arith, rest (omega (arith, n)) is)

  -- one that fails is set in place of one that fails
  set_other : (xs : List X) (i : ℕ) (x d : X) → i < length xs → p (get_or xs i d) ≡ false → p x ≡ false → position_or_len p (set xs i x) ≡ position_or_len p xs
  set_other [] i x d within was is = absurd (omega arith)
  set_other (y ∷ ys) zero x d within was is = ap (λ b. cond (not b) (1 + position_or_len p ys) 0) (is ∙ sym was)
  set_other (y ∷ ys) (suc i) x d within was is =
      ap (λ n. cond (not (p y)) (1 + n) 0) (set_other ys i x d (omega arith) was is)

  -- a map that changes no answer changes no first place
  map_same : (f : X → X) → ((x : X) → p (f x) ≡ p x) → (xs : List X) → position_or_len p (map f xs) ≡ position_or_len p xs
  map_same f same [] = refl
  map_same f same (x ∷ xs) = (λ i. cond (not (same x i)) (1 + map_same f same xs i) 0)

  map_none : (f : X → X) → ((x : X) → p (f x) ≡ false) → (xs : List X) → position_or_len p (map f xs) ≡ length xs
  map_none f none [] = refl
  map_none f none (x ∷ xs) =
      (λ i. cond (not (none x i)) (1 + map_none f none xs i) 0) ∙ (let one : 1 + length xs ≡ suc (length xs) = omega arith in one)

  some_counts : (xs : List X) → position_or_len p xs < length xs → 1 ≤ count_by p xs
  some_counts [] within = absurd (omega arith)
  some_counts (x ∷ xs) within =
      by_test (p x) refl within (some_counts xs) (sum_by-cons (λ y. cond (p y) 1 0) x xs)
    where
      by_test : (b : Bool) → p x ≡ b → cond (not b) (1 + position_or_len p xs) 0 < length (x ∷ xs) → (position_or_len p xs < length xs → 1 ≤ count_by p xs) → count_by p (x ∷ xs) ≡ cond (p x) 1 0 + count_by p xs → 1 ≤ count_by p (x ∷ xs)
      by_test true e w rest one = let first : ◌≡◌ {A = ℕ} (cond (p x) 1 0) 1 = ap (λ c. cond c 1 0) e in omega (arith, one, first)
      by_test false e w rest one = omega (arith, one, rest (omega (arith, w)))

some_position_within : {X : Type 0} (p : X → Bool) (xs : List X) → IsSome (option_map (λ (i : ℕ). i + 1) (position p xs)) → position_or_len p xs < length xs
some_position_within p xs h = by_test (ltb (position_or_len p xs) (length xs)) refl h
  where
    by_test : (b : Bool) → ltb (position_or_len p xs) (length xs) ≡ b → IsSome (option_map (λ (i : ℕ). i + 1) (cond b (Some (position_or_len p xs)) None)) → position_or_len p xs < length xs
    by_test true e g = ltb-true (position_or_len p xs) (length xs) e
    by_test false e g = cc

-- ---- addresses

not_same : (a b : Addr) → b ≢ a → addr_eq a b ≡ false
not_same a b other = by_test (addr_eq a b) refl
  where
    by_test : (t : Bool) → addr_eq a b ≡ t → t ≡ false
    by_test true e = absurd (other (sym (addr_eq-one a b e)))
    by_test false e = refl

module _ (places : List (Option Addr)) (a : Addr) where
  abbrev i : ℕ
  i = position_or_len is_none places

  was_free : i < length places → get_or places i None ≡ None
  was_free within = none_is (get_or places i None) (passes_at_first is_none places None within)

  pub marked_own : IsNone (mark_of places a) → addr_eq a a ≡ true → i < length places → mark_of (set places i (Some a)) a ≡ Some (i + 1)
  marked_own none same within =
      let first = set_first (is_held_by a) places i (Some a) within (no_position (is_held_by a) places none) same in
      (λ j. place (first j) (length-set places i (Some a) j)) ∙ ap (λ b. option_map (λ (k : ℕ). k + 1) (cond b (Some i) None)) (lt-ltb i (length places) within)

  pub marked_other : (b : Addr) → b ≢ a → i < length places → mark_of (set places i (Some a)) b ≡ mark_of places b
  marked_other b other within =
      let first = set_other (is_held_by b) places i (Some a) None within (ap (is_held_by b) (was_free within)) (not_same a b other) in
      (λ j. place (first j) (length-set places i (Some a) j))

  pub marked_count : i < length places → count_by is_some (set places i (Some a)) ≡ count_by is_some places + 1
  marked_count within =
      let none : ◌≡◌ {A = ℕ} (cond (is_some (get_or places i None)) 1 0) 0 = ap (λ r. cond (is_some r) 1 0) (was_free within) in
      omega (arith, sum_by-set (λ (x : Option Addr). cond (is_some x) 1 0) places i (Some a) None within, none)

  abbrev left : Option Addr → Option Addr
  left r = cond (is_held_by a r) None r

  left_own : (r : Option Addr) → is_held_by a (left r) ≡ false
  left_own r = by_test (is_held_by a r) refl
    where
      by_test : (b : Bool) → is_held_by a r ≡ b → is_held_by a (cond b None r) ≡ false
      by_test true e = refl
      by_test false e = e

  left_other : (b : Addr) → b ≢ a → (r : Option Addr) → is_held_by b (left r) ≡ is_held_by b r
  left_other b other r = by_test (is_held_by a r) refl (is_held_by b r) refl
    where
      by_test : (s : Bool) → is_held_by a r ≡ s → (t : Bool) → is_held_by b r ≡ t → is_held_by b (cond s None r) ≡ t
      by_test true e true f = absurd (other (same_holder r a b e f))
      by_test true e false f = refl
      by_test false e t f = f

  pub freed_own : mark_of (freed places a) a ≡ None
  freed_own =
      (λ j. place (map_none (is_held_by a) left left_own places j) (length-map places left j)) ∙ ap (λ b. option_map (λ (k : ℕ). k + 1) (cond b (Some (length places)) None)) (le-ltb (length places) (length places) (omega arith))

  pub freed_other : (b : Addr) → b ≢ a → mark_of (freed places a) b ≡ mark_of places b
  freed_other b other = (λ j. place (map_same (is_held_by b) left (left_other b other) places j) (length-map places left j))

  left_counts : (r : Option Addr) → cond (is_some (left r)) 1 0 + cond (is_held_by a r) 1 0 ≡ cond (is_some r) 1 0
  left_counts None = refl
  left_counts (Some c) = by_test (is_held_by a (Some c))
    where
      by_test : (b : Bool) → cond (is_some (cond b None (Some c))) 1 0 + cond b 1 0 ≡ 1
      by_test true = refl
      by_test false = refl

counts_freed : (a : Addr) (places : List (Option Addr)) → count_by is_some (freed places a) + count_by (is_held_by a) places ≡ count_by is_some places
counts_freed a [] = refl
counts_freed a (r ∷ rs) =
    omega (arith, sum_by-cons (λ (x : Option Addr). cond (is_some x) 1 0) (left (r ∷ rs) a r) (freed rs a), sum_by-cons (λ x. cond (is_held_by a x) 1 0) r rs, sum_by-cons (λ (x : Option Addr). cond (is_some x) 1 0) r rs, counts_freed a rs, left_counts (r ∷ rs) a r)

pub freed_count : (places : List (Option Addr)) (a : Addr) → IsMarks places → IsSome (mark_of places a) → count_by is_some (freed places a) + 1 ≡ count_by is_some places
freed_count places a marks there =
    omega (arith, counts_freed a places, marks.once a, some_counts (is_held_by a) places (some_position_within (is_held_by a) places there))
