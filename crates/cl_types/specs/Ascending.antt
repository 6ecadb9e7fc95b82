-- Lists that ascend by a key, without a repeated key: finite maps, and sets where an item is its own key.
-- Where each item is compared with a key that is sought, `at` says how it compares: `Less` stands before the
-- key, `Equal` at it, `Greater` after it.
use Rattle.std.specs.Prelude.{◌≡◌, ℕ, ◌<◌, ◌≤◌, List, [], ◌∷◌, length, filter, not, Option, Some, None}
use Rattle.std.specs.List.{AllByRecursion, AllWithin, HoldsAt}
use Rattle.std.specs.declared.cmp.Ordering.{Ordering}
use Rattle.std.specs.declared.cmp.Ordering.TheVariants.{Less, Equal, Greater}
use Rattle.std.specs.Ordering.{match_ordering, is_eq}

-- each item's key is less than those of all items after it
abbrev pub Ascends : {T K : Type 0} → (T → K) → (K → K → Ordering) → List T → Type 0
Ascends key cmp [] = Unit {0}
Ascends key cmp (x ∷ xs) = AllByRecursion (λ y. cmp (key x) (key y) ≡ Less) xs × Ascends key cmp xs

-- the item at the key, where there is one
abbrev pub found : {T : Type 0} → (T → Ordering) → List T → Option T
found at [] = None
found at (x ∷ xs) = match_ordering (at x) (found at xs) (Some x) None

-- the list with x at the key, in place of what stood there
abbrev pub put : {T : Type 0} → (T → Ordering) → T → List T → List T
put at x [] = x ∷ []
put at x (y ∷ ys) = match_ordering (at y) (y ∷ put at x ys) (x ∷ ys) (x ∷ y ∷ ys)

-- the list without what stands at the key
abbrev pub without : {T : Type 0} → (T → Ordering) → List T → List T
without at xs = filter (λ x. not (is_eq (at x))) xs

-- the items in ascending order of their keys; of those with one key the first in the list
abbrev pub sorted_by : {T K : Type 0} → (T → K) → (K → K → Ordering) → List T → List T
sorted_by key cmp [] = []
sorted_by key cmp (x ∷ xs) = put (λ y. cmp (key y) (key x)) x (sorted_by key cmp xs)

-- the set of a list: its elements in ascending order, each once
abbrev pub sorted_set : {T : Type 0} → (T → T → Ordering) → List T → List T
sorted_set cmp xs = sorted_by (λ x. x) cmp xs

-- the item with the key stands at place i
pub record IsPlace {T : Type 0} (at : T → Ordering) (xs : List T) (i : ℕ) : Type 0 where
  pub within : i < length xs
  pub here : HoldsAt (λ y. at y ≡ Equal) xs i
  pub before : AllWithin (λ y. at y ≡ Less) xs 0 i

-- no item has the key, and one that had it would stand at place i
pub record IsGap {T : Type 0} (at : T → Ordering) (xs : List T) (i : ℕ) : Type 0 where
  pub within : i ≤ length xs
  pub before : AllWithin (λ y. at y ≡ Less) xs 0 i
  pub after : AllWithin (λ y. at y ≡ Greater) xs i (length xs)
