-- Numbers that fall, and the parts of such a list.
use Rattle.std.proofs.Common.{◌≡◌, ℕ, ◌<◌, ◌≤◌, List, [], ◌∷◌, ◌++◌, length, take, get_or, refl, arith, zero, suc}
use Rattle.priority_assign.specs.declared.numbered.Numbered.{Numbered}
use Rattle.priority_assign.specs.Rules.{FallsBetween, last_number, first_number}

pub last_number-take : (u : ℕ) (xs : List Numbered) (i : ℕ) (d : Numbered) → i < length xs → last_number u (take (suc i) xs) ≡ (get_or xs i d).number
last_number-take u [] i d h = absurd (omega (arith, h))
last_number-take u (x ∷ xs) zero d h = refl
last_number-take u (x ∷ xs) (suc i) d h = last_number-take x.number xs i d (omega (arith, h))

pub FallsBetween-append : (u l m : ℕ) (xs ys : List Numbered) → FallsBetween u m xs → FallsBetween (last_number u xs) l ys → FallsBetween u l (xs ++ ys)
FallsBetween-append u l m [] ys f g = g
FallsBetween-append u l m (x ∷ xs) ys f g = (f.0, FallsBetween-append x.number l m xs ys f.1 g)

pub FallsBetween-back : (u l : ℕ) (xs ys : List Numbered) → FallsBetween u l (xs ++ ys) → FallsBetween (last_number u xs) l ys
FallsBetween-back u l [] ys f = f
FallsBetween-back u l (x ∷ xs) ys f = FallsBetween-back x.number l xs ys f.1

pub first_number-below : (u l : ℕ) (xs : List Numbered) → FallsBetween u l xs → first_number l xs < u
first_number-below u l [] f = f
first_number-below u l (x ∷ xs) f = f.0

pub FallsBetween-front : (u l : ℕ) (xs ys : List Numbered) → FallsBetween u l (xs ++ ys) → FallsBetween u (first_number l ys) xs
FallsBetween-front u l [] ys f = first_number-below u l ys f
FallsBetween-front u l (x ∷ xs) ys f = (f.0, FallsBetween-front x.number l xs ys f.1)

pub last_number-above : (u l : ℕ) (xs : List Numbered) → FallsBetween u l xs → l < last_number u xs
last_number-above u l [] f = f
last_number-above u l (x ∷ xs) f = last_number-above x.number l xs f.1

-- the same rules below another upper bound
pub FallsBetween-below : (u v l : ℕ) (xs : List Numbered) → FallsBetween u l xs → first_number l xs < v → FallsBetween v l xs
FallsBetween-below u v l [] f h = h
FallsBetween-below u v l (x ∷ xs) f h = (h, f.1)

pub last_number-bounded : (u l : ℕ) (xs : List Numbered) → FallsBetween u l xs → last_number u xs ≤ u
last_number-bounded u l [] f = omega arith
last_number-bounded u l (x ∷ xs) f = omega (arith, last_number-bounded x.number l xs f.1, f.0)

pub first_number-bounded : (u l : ℕ) (xs : List Numbered) → FallsBetween u l xs → l ≤ first_number l xs
first_number-bounded u l [] f = omega arith
first_number-bounded u l (x ∷ xs) f = omega (arith, last_number-above x.number l xs f.1, last_number-bounded x.number l xs f.1)

pub last_number-append : (u : ℕ) (xs ys : List Numbered) → last_number u (xs ++ ys) ≡ last_number (last_number u xs) ys
last_number-append u [] ys = refl
last_number-append u (x ∷ xs) ys = last_number-append x.number xs ys
