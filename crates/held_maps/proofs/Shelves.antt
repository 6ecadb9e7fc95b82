-- Where an object stands among others is where its text stands among theirs.
use Rattle.std.proofs.Common.{◌≡◌, ℕ, ◌<◌, ◌≤◌, List, [], ◌∷◌, length, get_or, map, subst, arith}
use Rattle.std.specs.List.{AllByRecursion}
use Rattle.std.specs.declared.cmp.Ordering.{Ordering}
use Rattle.std.specs.declared.cmp.Ordering.TheVariants.{Less, Equal, Greater}
use Rattle.std.proofs.lemmas.List.{get_or-map, length-map}
use Rattle.cl_types.specs.Ascending.{Ascends, IsPlace, IsGap}

module _ {T K : Type 0} (title : T → K) where
  -- what holds of a text holds of what has it
  back : (P : K → Type 0) (xs : List T) (k : ℕ) (d : T) → k < length xs → P (get_or (map title xs) k (title d)) → P (title (get_or xs k d))
  back P xs k d within here = subst P (get_or-map title xs k d (title d) within) here

  pub placed : (at : K → Ordering) (xs : List T) (i : ℕ) → IsPlace at (map title xs) i → IsPlace (λ x. at (title x)) xs i
  placed at xs i p =
      let inside : i < length xs = omega (arith, p.within, length-map xs title) in
      record {
        within = inside;
        here = λ d. back (λ k. at k ≡ Equal) xs i d inside (p.here (title d));
        before = λ k d lo hi. back (λ t. at t ≡ Less) xs k d (omega arith) (p.before k (title d) lo hi);
      }

  pub gap : (at : K → Ordering) (xs : List T) (i : ℕ) → IsGap at (map title xs) i → IsGap (λ x. at (title x)) xs i
  gap at xs i p =
      let inside : i ≤ length xs = omega (arith, p.within, length-map xs title) in
      record {
        within = inside;
        before = λ k d lo hi. back (λ t. at t ≡ Less) xs k d (omega arith) (p.before k (title d) lo hi);
        after = λ k d lo hi. back (λ t. at t ≡ Greater) xs k d hi (p.after k (title d) lo (omega (arith, hi, length-map xs title)));
      }

  all_titles : (P : K → Type 0) (xs : List T) → AllByRecursion (λ x. P (title x)) xs → AllByRecursion P (map title xs)
  all_titles P [] h = tt
  all_titles P (x ∷ xs) h = (h.0, all_titles P xs h.1)

  -- the texts of what ascends ascend
  pub titles_ascend : (cmp : K → K → Ordering) (xs : List T) → Ascends title cmp xs → Ascends (λ k. k) cmp (map title xs)
  titles_ascend cmp [] up = tt
  titles_ascend cmp (x ∷ xs) up = (all_titles (λ k. cmp (title x) k ≡ Less) xs up.0, titles_ascend cmp xs up.1)
