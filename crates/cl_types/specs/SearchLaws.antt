-- What a search finds in an ascending list, and what an edit at that place does.
use Rattle.std.proofs.Common.{◌≡◌, ℕ, zero, suc, ◌+◌, ◌<◌, List, [], ◌∷◌, length, get_or, Result, Ok, Err, IfOk, IfErr, refl, sym, ◌∙◌, arith}
use Rattle.std.specs.List.{HoldsAt}
use Rattle.std.specs.List.Sorted.{IsSearchInRange, IsBinarySearchResult, IsSortedBy}
use Rattle.std.specs.declared.cmp.Ordering.{Ordering}
use Rattle.std.specs.declared.cmp.Ordering.TheVariants.{Less, Equal}
use Rattle.std.specs.Cmp.{IsTotalOrder}
use Rattle.std.specs.Ordering.{is_lt}
use Rattle.std.proofs.lemmas.List.Sorted.{searchable_from_sorted}
use Rattle.std.proofs.lemmas.Cmp.{alike_right}
use Rattle.std.proofs.lemmas.List.Elements.{All-from_recursion}
use Rattle.cl_types.specs.Ascending.{Ascends, IsPlace, IsGap}

module _ {T K : Type 0} (key : T → K) (cmp : K → K → Ordering) where
  -- of two items the first has the lesser key
  pub ascends_between : (xs : List T) (i j : ℕ) (d : T) → Ascends key cmp xs → i < j → j < length xs → cmp (key (get_or xs i d)) (key (get_or xs j d)) ≡ Less
  ascends_between [] i j d up lt within = absurd (omega arith)
  ascends_between (x ∷ xs) zero zero d up lt within = absurd (omega arith)
  ascends_between (x ∷ xs) zero (suc j) d up lt within = All-from_recursion (λ y. cmp (key x) (key y) ≡ Less) xs up.0 j d (omega arith)
  ascends_between (x ∷ xs) (suc i) zero d up lt within = absurd (omega arith)
  ascends_between (x ∷ xs) (suc i) (suc j) d up lt within = ascends_between xs i j d up.1 (omega arith) (omega arith)

module _ {T K : Type 0} (key : T → K) {cmp : K → K → Ordering} (o : IsTotalOrder cmp) (k : K) (xs : List T) (up : Ascends key cmp xs) where
  -- what stands after an item is not less
  not_less_after : IsSortedBy (λ a b. is_lt (cmp (key a) (key b))) xs
  not_less_after i d lo hi =
      let rises = ascends_between key cmp xs i (i + 1) d up (omega arith) (omega arith) in
      rw (o.antisymm (key (get_or xs (i + 1) d)) (key (get_or xs i d)), rises) refl

  -- the item with the key stands behind lesser ones
  pub place_from_here : (i : ℕ) → i < length xs → HoldsAt (λ y. cmp (key y) k ≡ Equal) xs i → IsPlace (λ y. cmp (key y) k) xs i
  place_from_here i within here = record {
    within = within;
    here = here;
    before = λ j d lo hi. sym (alike_right o (key (get_or xs i d)) k (key (get_or xs j d)) (here d)) ∙ ascends_between key cmp xs j i d up hi within;
  }

  -- a binary search ends at the key, or at the gap for it
  pub searched : (r : Result ℕ ℕ) → IsSearchInRange r (length xs) → IsBinarySearchResult (λ y. cmp (key y) k) xs r → record { found : IfOk r (IsPlace (λ y. cmp (key y) k) xs); absent : IfErr r (IsGap (λ y. cmp (key y) k) xs) }
  searched (Ok i) within here = record { found = place_from_here i within here; absent = tt }
  searched (Err i) within parted = record {
    found = tt;
    absent =
        let parts = parted (searchable_from_sorted o key xs k not_less_after) in
        record { within = within; before = parts.0; after = parts.1 };
  }
