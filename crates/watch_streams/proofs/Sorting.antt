-- Items taken from the end one by one, each put at its place, are sorted.
use Rattle.std.proofs.Common.{◌≡◌, List, [], ◌∷◌, ◌++◌, refl, ap}
use Rattle.std.specs.declared.cmp.Ordering.{Ordering}
use Rattle.cl_types.specs.Ascending.{put, sorted_by}

module _ {T K : Type 0} (key : T → K) (cmp : K → K → Ordering) where
  abbrev pub put_item : T → List T → List T
  put_item x xs = put (λ y. cmp (key y) (key x)) x xs

  -- the items that are left, each put among those that are sorted, the last one first
  abbrev pub sorted_onto : List T → List T → List T
  sorted_onto [] sorted = sorted
  sorted_onto (x ∷ xs) sorted = put_item x (sorted_onto xs sorted)

  pub onto_last : (xs : List T) (x : T) (sorted : List T) → sorted_onto (xs ++ x ∷ []) sorted ≡ sorted_onto xs (put_item x sorted)
  onto_last [] x sorted = refl
  onto_last (y ∷ ys) x sorted = ap (put_item y) (onto_last ys x sorted)

  pub onto_none : (xs : List T) → sorted_onto xs [] ≡ sorted_by key cmp xs
  onto_none [] = refl
  onto_none (x ∷ xs) = ap (put_item x) (onto_none xs)
