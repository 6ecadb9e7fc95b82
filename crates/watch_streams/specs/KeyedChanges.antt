-- What differs between two lists that ascend by a key (this project's own).
use Rattle.std.specs.Prelude.{List, ◌++◌, Bool, true, false, not, filter, map, Option, Some, None, is_none}
use Rattle.std.specs.declared.cmp.Ordering.{Ordering}
use base.Stored.{Coded}
use Rattle.cl_types.specs.Ascending.{found, sorted_by}
use Rattle.cl_types.specs.Equality.{is_same}

-- what stands at the item's key
abbrev pub beside : {T K : Type 0} → (T → K) → (K → K → Ordering) → List T → T → Option T
beside key cmp others x = found (λ y. cmp (key y) (key x)) others

-- the items at whose keys the others have nothing
abbrev pub lacking : {T K : Type 0} → (T → K) → (K → K → Ordering) → List T → List T → List T
lacking key cmp items others = filter (λ x. is_none (beside key cmp others x)) items

-- another item than this one stood there
abbrev pub is_other : {T : Type 0} → Coded T → Option T → T → Bool
is_other coded None x = false
is_other coded (Some y) x = not (is_same coded y x)

-- the new items that took the place of other ones at their keys
abbrev pub altered : {T K : Type 0} → Coded T → (T → K) → (K → K → Ordering) → List T → List T → List T
altered coded key cmp old new = filter (λ x. is_other coded (beside key cmp old x) x) new

-- Where each item is itself a change from nothing: the changes that lead from the old ones to the new ones, in the
-- order of their keys. `ended` is the change that takes one back.
abbrev pub changes_of : {T K : Type 0} → Coded T → (T → K) → (K → K → Ordering) → (T → T) → List T → List T → List T
changes_of coded key cmp ended old new =
    sorted_by key cmp (map ended (lacking key cmp old new) ++ (lacking key cmp new old ++ altered coded key cmp old new))
