-- How often an address stands at places, before and after a mark is taken or given back.
use Rattle.std.proofs.Common.{◌≡◌, ℕ, ◌+◌, ◌-◌, ◌<◌, ◌≤◌, List, [], ◌∷◌, length, set, get_or, refl, arith, sym, ap, ◌∙◌, subst, zero, suc, cond, Bool, true, false, not, Option, Some, None, is_some, is_none, count_by, replicate, position, IsSome, IsNone, ltb}
use Rattle.std.specs.List.{slice_get, position_or_len}
use Rattle.std.proofs.lemmas.List.Sums.{sum_by-cons, sum_by-set, passes_at_first, fails_before_first}
use Rattle.std.proofs.lemmas.Option.{slice_get-get_or}
use Rattle.std.proofs.lemmas.Bool.{ltb-false, lt-ltb, le-ltb}
use Rattle.std.proofs.lemmas.List.Quantifiers.{position-Some}
use Rattle.std.proofs.lemmas.List.{length-set, length-map, length-replicate}
use Rattle.std.specs.Option.{option_map}
use Rattle.cl_types.specs.declared.addr.Addr.{Addr}
use Rattle.cl_types.specs.Addr.{addr_eq}
use Rattle.cl_types.specs.AddrEq.{addr_eq-one}
use Rattle.egress_marks.specs.Places.{no_marks, is_held_by, mark_of, IsHeld, freed, IsMarks}

-- where not all places are held, one is free
pub some_free : (places : List (Option Addr)) → count_by is_some places < length places → position_or_len is_none places < length places
some_free [] h = absurd (omega (arith, h))
some_free (None ∷ places) h = omega arith
some_free (Some a ∷ places) h =
    let one = sum_by-cons (λ x. cond (is_some x) 1 0) (Some a) places in
    omega (arith, h, one, some_free places (omega (arith, h, one)))

pub none_is : (r : Option Addr) → is_none r ≡ true → r ≡ None
none_is None h = refl
none_is (Some a) h = cc

pub free_at : (places : List (Option Addr)) → position_or_len is_none places < length places → slice_get places (position_or_len is_none places) ≡ Some None
free_at places lt =
    let i = position_or_len is_none places in
    let none = none_is (get_or places i None) (passes_at_first is_none places None lt) in
    slice_get-get_or places i None lt ∙ ap Some none

held_place : (places : List (Option Addr)) (i : ℕ) (r : Option Addr) → slice_get places i ≡ Some r → is_none r ≡ false → (a : Addr) × (slice_get places i ≡ Some (Some a))
held_place places i None at h = cc
held_place places i (Some a) at h = (a, at)

pub held_before : (places : List (Option Addr)) (m : ℕ) → position_or_len is_none places < length places → 1 ≤ m → m < position_or_len is_none places + 1 → IsHeld places m
held_before places m lt low high =
    let i = m - 1 in
    let before : i < position_or_len is_none places = omega arith in
    let held = held_place places i (get_or places i None) (slice_get-get_or places i None (omega (arith, before, lt))) (fails_before_first is_none places i None before) in
    record { by = held.0; at = held.1 }

-- an address without a mark stands at no place
count_none : {X : Type 0} (p : X → Bool) (xs : List X) → length xs ≤ position_or_len p xs → count_by p xs ≡ 0
count_none p [] h = refl
count_none p (x ∷ xs) h =
    let one = sum_by-cons (λ x. cond (p x) 1 0) x xs in
    elim (p x) as (λ b. p x ≡ b → length (x ∷ xs) ≤ cond (not b) (1 + position_or_len p xs) 0 → count_by p (x ∷ xs) ≡ 0) [
      | true ↦ λ e g. absurd (omega (arith, g))
      | false ↦ λ e g. one ∙ rw e (omega (arith, count_none p xs (omega (arith, g))))
    ] refl h

pub no_position : {X : Type 0} (p : X → Bool) (xs : List X) → IsNone (option_map (λ (i : ℕ). i + 1) (position p xs)) → length xs ≤ position_or_len p xs
no_position p xs h =
    elim (ltb (position_or_len p xs) (length xs)) as (λ b. ltb (position_or_len p xs) (length xs) ≡ b → IsNone (option_map (λ (i : ℕ). i + 1) (cond b (Some (position_or_len p xs)) None)) → length xs ≤ position_or_len p xs) [
      | true ↦ λ e g. cc
      | false ↦ λ e g. ltb-false (position_or_len p xs) (length xs) e
    ] refl h

-- one more place of a counts for a alone
pub IsMarks-marked : (places : List (Option Addr)) (a : Addr) → IsMarks places → IsNone (mark_of places a) → position_or_len is_none places < length places → IsMarks (set places (position_or_len is_none places) (Some a))
IsMarks-marked places a marks none lt =
    let i = position_or_len is_none places in
    let nowhere = count_none (is_held_by a) places (no_position (is_held_by a) places none) in
    let counts = λ (b : Addr). sum_by-set (λ x. cond (is_held_by b x) 1 0) places i (Some a) None lt in
    record {
      all = length-set places i (Some a) ∙ marks.all;
      once = λ b.
          elim (addr_eq a b) as (λ t. addr_eq a b ≡ t → count_by (is_held_by b) (set places i (Some a)) ≤ 1) [
            | true ↦ λ e.
                let same = addr_eq-one a b e in
                let none_b : count_by (is_held_by b) places ≡ 0 = ap (λ c. count_by (is_held_by c) places) (sym same) ∙ nowhere in
                let one : ◌≡◌ {A = ℕ} (cond (is_held_by b (Some a)) 1 0) 1 = rw e refl in
                omega (arith, counts b, one, none_b)
            | false ↦ λ e.
                let none_more : ◌≡◌ {A = ℕ} (cond (is_held_by b (Some a)) 1 0) 0 = rw e refl in
                omega (arith, counts b, none_more, marks.once b)
          ] refl;
    }

count_freed : (places : List (Option Addr)) (a b : Addr) → count_by (is_held_by b) (freed places a) ≤ count_by (is_held_by b) places
count_freed [] a b = omega arith
count_freed (place ∷ places) a b =
    let kept = cond (is_held_by a place) None place in
    let before = sum_by-cons (λ x. cond (is_held_by b x) 1 0) place places in
    let after = sum_by-cons (λ x. cond (is_held_by b x) 1 0) kept (freed places a) in
    let rest = count_freed places a b in
    let less : cond (is_held_by b kept) 1 0 ≤ cond (is_held_by b place) 1 0 =
    elim (is_held_by a place) as (λ t. cond (is_held_by b (cond t None place)) 1 0 ≤ cond (is_held_by b place) 1 0) [ true ↦ omega arith | false ↦ omega arith ] in
    omega (arith, before, after, rest, less)

pub IsMarks-freed : (places : List (Option Addr)) (a : Addr) → IsMarks places → IsMarks (freed places a)
IsMarks-freed places a marks =
    record {
      all = length-map places (λ place. cond (is_held_by a place) None place) ∙ marks.all;
      once = λ b. omega (arith, count_freed places a b, marks.once b);
    }

pub some_position : (places : List (Option Addr)) → count_by is_some places < length places → IsSome (position is_none places)
some_position places few =
    rw (lt-ltb (position_or_len is_none places) (length places) (some_free places few)) refl

pub no_marks-is : (places : List (Option Addr)) → places ≡ replicate 255 None → places ≡ no_marks
unfolding no_marks
no_marks-is places e = e

abbrev free : ℕ → List (Option Addr)
free n = replicate n None

none_in_free : (n : ℕ) (a : Addr) → position_or_len (is_held_by a) (free n) ≡ n
none_in_free zero a = refl
none_in_free (suc n) a = omega (arith, none_in_free n a)

mark_of-free : (n : ℕ) (a : Addr) → mark_of (free n) a ≡ None
mark_of-free n a =
    let size : length (free n) ≡ n = length-replicate n None in
    rw (le-ltb (position_or_len (is_held_by a) (free n)) (length (free n)) (omega (arith, size, none_in_free n a))) refl

count-free : (n : ℕ) → count_by is_some (free n) ≡ 0
count-free zero = refl
count-free (suc n) = omega (arith, sum_by-cons (λ (x : Option Addr). cond (is_some x) 1 0) None (free n), count-free n)

pub mark_of-no_marks : (places : List (Option Addr)) (a : Addr) → places ≡ replicate 255 None → mark_of places a ≡ None
mark_of-no_marks places a e = ap (λ zs. mark_of zs a) e ∙ mark_of-free 255 a

pub count-no_marks : (places : List (Option Addr)) → places ≡ replicate 255 None → count_by is_some places ≡ 0
count-no_marks places e = ap (count_by is_some) e ∙ count-free 255

-- whoever holds the mark of a is a
held_here : (places : List (Option Addr)) (a : Addr) (m : ℕ) → mark_of places a ≡ Some m → (i : ℕ) × (i + 1 ≡ m) × (is_held_by a (get_or places i None) ≡ true)
held_here places a m h =
    elim (position (is_held_by a) places) as (λ r. position (is_held_by a) places ≡ r → option_map (λ (i : ℕ). i + 1) r ≡ Some m → (i : ℕ) × (i + 1 ≡ m) × (is_held_by a (get_or places i None) ≡ true)) [
      | None ↦ λ e g. cc
      | Some i ↦ λ e g.
          let at : i + 1 ≡ m = cc in
          (i, at, (position-Some (is_held_by a) places i None e).1)
    ] refl h

pub same_holder : (place : Option Addr) (a b : Addr) → is_held_by a place ≡ true → is_held_by b place ≡ true → b ≡ a
same_holder None a b h g = cc
same_holder (Some c) a b h g = sym (addr_eq-one c b g) ∙ addr_eq-one c a h

pub distinct_marks : (places : List (Option Addr)) (a b : Addr) (m : ℕ) → mark_of places a ≡ Some m → mark_of places b ≡ Some m → b ≡ a
distinct_marks places a b m h g =
    let x = held_here places a m h in
    let y = held_here places b m g in
    let same : y.0 ≡ x.0 = omega (arith, x.1, y.1) in
    same_holder (get_or places x.0 None) a b x.2 (subst (λ i. is_held_by b (get_or places i None) ≡ true) same y.2)
