-- The order of two lists, when their first items are looked at one after another.
use Rattle.std.proofs.Common.{◌≡◌, ℕ, zero, suc, ◌+◌, ◌<◌, ◌≤◌, List, [], ◌∷◌, length, get_or, drop, refl, arith, add-one}
use Rattle.std.proofs.Math.Seq.{drop-cons}
use Rattle.std.specs.declared.cmp.Ordering.{Ordering}
use Rattle.std.specs.declared.cmp.Ordering.TheVariants.{Less, Greater}
use Rattle.std.specs.Ordering.{ordering_then}
use Rattle.std.specs.Cmp.Lexicographic.{slice_cmp}

module _ {T : Type 0} (cmp : T → T → Ordering) where
  pub ends_before : (b : List T) (n : ℕ) → n < length b → slice_cmp cmp [] (drop n b) ≡ Less
  ends_before [] n h = absurd (omega arith)
  ends_before (y ∷ ys) zero h = refl
  ends_before (y ∷ ys) (suc n) h = ends_before ys n (omega arith)

  pub ends_after : (a : List T) (n : ℕ) → n < length a → slice_cmp cmp (drop n a) [] ≡ Greater
  ends_after [] n h = absurd (omega arith)
  ends_after (x ∷ xs) zero h = refl
  ends_after (x ∷ xs) (suc n) h = ends_after xs n (omega arith)

  pub nothing_left : (a : List T) (n : ℕ) → length a ≤ n → drop n a ≡ []
  nothing_left [] zero h = refl
  nothing_left [] (suc n) h = refl
  nothing_left (x ∷ xs) zero h = absurd (omega arith)
  nothing_left (x ∷ xs) (suc n) h = nothing_left xs n (omega arith)

  pub next_pair : (a b : List T) (i : ℕ) (x y : T) → i < length a → i < length b → x ≡ get_or a i x → y ≡ get_or b i y
      → slice_cmp cmp (drop i a) (drop i b) ≡ ordering_then (cmp x y) (slice_cmp cmp (drop (i + 1) a) (drop (i + 1) b))
  next_pair a b i x y in_a in_b x_is y_is =
      let split_a : drop i a ≡ x ∷ drop (i + 1) a = rw (add-one, drop-cons a i x in_a, ← x_is) refl in
      let split_b : drop i b ≡ y ∷ drop (i + 1) b = rw (add-one, drop-cons b i y in_b, ← y_is) refl in
      (λ k. slice_cmp cmp (split_a k) (split_b k))
