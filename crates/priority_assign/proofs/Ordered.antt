-- Keys in strict order, and where one more key stands among them.
use Rattle.std.proofs.Common.{◌≡◌, ℕ, ◌+◌, ◌<◌, ◌≤◌, List, [], ◌∷◌, ◌++◌, map, length, take, drop, get_or, refl, arith, sym, ap, ◌∙◌, zero, suc, Bool, true, false, cond, not, Option, Some, None, Ordering, find, filter}
use Rattle.std.specs.Prelude.{insert, remove, option_and_then}
use Rattle.std.specs.List.{prefix_len, AllByRecursion, slice_get}
use Rattle.std.proofs.lemmas.List.{take-append-drop, get_or-map, length-map}
use Rattle.std.proofs.lemmas.List.Sums.{prefix_len_is}
use Rattle.std.specs.List.Sorted.{IsStrictlySortedBy, IsPartitionedBy, IsPartitionPoint}
use Rattle.std.specs.Ordering.{is_lt, is_eq, ordering_reverse}
use Rattle.std.specs.declared.cmp.Ordering.TheVariants.{Less, Equal, Greater}
use Rattle.std.specs.Cmp.{IsTotalOrder}
use Rattle.std.proofs.lemmas.Cmp.{alike_right}
use Rattle.std.proofs.lemmas.Bool.{both_ways}
use Rattle.cl_types.specs.ListLaws.{all_weaker}

all_insert : {K : Type 0} (P : K → Type 0) (k : K) (front back : List K) → AllByRecursion P (front ++ back) → P k → AllByRecursion P (front ++ k ∷ back)
all_insert P k [] back f h = (h, f)
all_insert P k (x ∷ front) back f h = (f.0, all_insert P k front back f.1 h)

sorted_insert_between : {K : Type 0} (R : K → K → Ordering) (k : K) (front back : List K) → IsStrictlySortedBy R (front ++ back) → AllByRecursion (λ q. R q k ≡ Less) front → AllByRecursion (λ q. R k q ≡ Less) back → IsStrictlySortedBy R (front ++ k ∷ back)
unfolding IsStrictlySortedBy
sorted_insert_between R k [] back f a b = (b, f)
sorted_insert_between R k (x ∷ front) back f a b =
    (all_insert (λ q. R x q ≡ Less) k front back f.0 a.0, sorted_insert_between R k front back f.1 a.1 b)

all_without : {K : Type 0} (P : K → Type 0) (k : K) (front back : List K) → AllByRecursion P (front ++ k ∷ back) → AllByRecursion P (front ++ back)
all_without P k [] back f = f.1
all_without P k (x ∷ front) back f = (f.0, all_without P k front back f.1)

pub IsStrictlySortedBy-without : {K : Type 0} (R : K → K → Ordering) (k : K) (front back : List K) → IsStrictlySortedBy R (front ++ k ∷ back) → IsStrictlySortedBy R (front ++ back)
unfolding IsStrictlySortedBy
IsStrictlySortedBy-without R k [] back f = f.1
IsStrictlySortedBy-without R k (x ∷ front) back f =
    (all_without (λ q. R x q ≡ Less) k front back f.0, IsStrictlySortedBy-without R k front back f.1)

less_from_is_lt : (r : Ordering) → is_lt r ≡ true → r ≡ Less
less_from_is_lt Less h = refl
less_from_is_lt Equal h = cc
less_from_is_lt Greater h = cc

greater_from_neither : (r : Ordering) → is_lt r ≡ false → is_eq r ≡ false → r ≡ Greater
greater_from_neither Less h e = cc
greater_from_neither Equal h e = cc
greater_from_neither Greater h e = refl

pub equal_from_is_eq : (r : Ordering) → is_eq r ≡ true → r ≡ Equal
equal_from_is_eq Less h = cc
equal_from_is_eq Equal h = refl
equal_from_is_eq Greater h = cc

one_more : (n : ℕ) → 1 + n ≡ suc n
one_more n = omega arith

none_parts : {X : Type 0} (b : Bool) (x : X) (r : Option X) → cond b (Some x) r ≡ None → (b ≡ false) × (r ≡ None)
none_parts true x r h = cc
none_parts false x r h = (refl, h)

-- what stands before the place of k comes before k
pub all_before_place : {K : Type 0} (R : K → K → Ordering) (k : K) (ks : List K) → AllByRecursion (λ q. R q k ≡ Less) (take (prefix_len (λ q. is_lt (R q k)) ks) ks)
all_before_place R k [] = tt
all_before_place R k (x ∷ ks) =
    elim (is_lt (R x k)) as (λ b. is_lt (R x k) ≡ b → AllByRecursion (λ q. R q k ≡ Less) (take (cond b (1 + prefix_len (λ q. is_lt (R q k)) ks) 0) (x ∷ ks))) [
      | true ↦ λ h. rw (one_more (prefix_len (λ q. is_lt (R q k)) ks)) (less_from_is_lt (R x k) h, all_before_place R k ks)
      | false ↦ λ h. tt
    ] refl

less_back : {K : Type 0} {R : K → K → Ordering} (o : IsTotalOrder R) (k x : K) → R x k ≡ Greater → R k x ≡ Less
less_back o k x h = o.antisymm k x ∙ ap ordering_reverse h

-- k comes before what stands from its place on, where it isn't there itself
pub all_after_place : {K : Type 0} {R : K → K → Ordering} (o : IsTotalOrder R) (k : K) (ks : List K) → IsStrictlySortedBy R ks → find (λ q. is_eq (R q k)) ks ≡ None → AllByRecursion (λ q. R k q ≡ Less) (drop (prefix_len (λ q. is_lt (R q k)) ks) ks)
unfolding IsStrictlySortedBy
all_after_place o k [] s f = tt
all_after_place {R = R} o k (x ∷ ks) s f =
    let absent = none_parts (is_eq (R x k)) x (find (λ q. is_eq (R q k)) ks) f in
    elim (is_lt (R x k)) as (λ b. is_lt (R x k) ≡ b → AllByRecursion (λ q. R k q ≡ Less) (drop (cond b (1 + prefix_len (λ q. is_lt (R q k)) ks) 0) (x ∷ ks))) [
      | true ↦ λ h. rw (one_more (prefix_len (λ q. is_lt (R q k)) ks)) (all_after_place o k ks s.1 absent.1)
      | false ↦ λ h.
          let first = less_back o k x (greater_from_neither (R x k) h absent.0) in
          (first, all_weaker (λ q. R x q ≡ Less) (λ q. R k q ≡ Less) (λ q later. o.trans k x q first later) ks s.0)
    ] refl

pub IsStrictlySortedBy-insert : {K : Type 0} {R : K → K → Ordering} (o : IsTotalOrder R) (k : K) (ks : List K) → IsStrictlySortedBy R ks → find (λ q. is_eq (R q k)) ks ≡ None → IsStrictlySortedBy R (insert ks (prefix_len (λ q. is_lt (R q k)) ks) k)
IsStrictlySortedBy-insert {R = R} o k ks s f =
    let n = prefix_len (λ q. is_lt (R q k)) ks in
    sorted_insert_between R k (take n ks) (drop n ks) (rw take-append-drop s) (all_before_place R k ks) (all_after_place o k ks s f)

all_at : {K : Type 0} (P : K → Type 0) (ks : List K) (j : ℕ) (d : K) → AllByRecursion P ks → j < length ks → P (get_or ks j d)
all_at P [] j d f h = absurd (omega (arith, h))
all_at P (x ∷ ks) zero d f h = f.0
all_at P (x ∷ ks) (suc j) d f h = all_at P ks j d f.1 (omega (arith, h))

-- what a binary search for the place of k asks
pub IsPartitionedBy-is_lt : {K : Type 0} {R : K → K → Ordering} (o : IsTotalOrder R) (k : K) (ks : List K) → IsStrictlySortedBy R ks → IsPartitionedBy (λ q. is_lt (R q k)) ks
unfolding IsStrictlySortedBy
IsPartitionedBy-is_lt o k [] s i j d le h t = absurd (omega (arith, h))
IsPartitionedBy-is_lt o k (x ∷ ks) s zero zero d le h t = t
IsPartitionedBy-is_lt {R = R} o k (x ∷ ks) s zero (suc j) d le h t =
    ap is_lt (o.trans x (get_or ks j d) k (all_at (λ q. R x q ≡ Less) ks j d s.0 (omega (arith, h))) (less_from_is_lt (R (get_or ks j d) k) t))
IsPartitionedBy-is_lt o k (x ∷ ks) s (suc i) zero d le h t = absurd (omega (arith, le))
IsPartitionedBy-is_lt o k (x ∷ ks) s (suc i) (suc j) d le h t =
    IsPartitionedBy-is_lt o k ks s.1 i j d (omega (arith, le)) (omega (arith, h)) t

pub prefix_len-map : {X K : Type 0} (key : X → K) (p : K → Bool) (xs : List X) → prefix_len p (map key xs) ≡ prefix_len (λ x. p (key x)) xs
prefix_len-map key p [] = refl
prefix_len-map key p (x ∷ xs) = ap (λ n. cond (p (key x)) (1 + n) 0) (prefix_len-map key p xs)

pub find-map : {X K : Type 0} (key : X → K) (p : K → Bool) (xs : List X) → find (λ x. p (key x)) xs ≡ None → find p (map key xs) ≡ None
find-map key p [] h = refl
find-map key p (x ∷ xs) h =
    let parts = none_parts (p (key x)) x (find (λ x. p (key x)) xs) h in
    rw parts.0 (find-map key p xs parts.1)

-- what comes before k isn't k
pub find-behind : {X K : Type 0} (key : X → K) (R : K → K → Ordering) (k : K) (front : List X) (y : X) (back : List X) → AllByRecursion (λ q. R q k ≡ Less) (map key front) → is_eq (R (key y) k) ≡ true → find (λ x. is_eq (R (key x) k)) (front ++ y ∷ back) ≡ Some y
find-behind key R k [] y back f h = rw h refl
find-behind key R k (x ∷ front) y back f h = rw f.0 (find-behind key R k front y back f.1 h)

-- k isn't among what comes after x, where x doesn't come before k
none_after : {X K : Type 0} (key : X → K) {R : K → K → Ordering} (o : IsTotalOrder R) (k x : K) (xs : List X) → is_lt (R x k) ≡ false → AllByRecursion (λ q. R x q ≡ Less) (map key xs) → AllByRecursion (λ y. is_eq (R (key y) k) ≡ false) xs
none_after key o k x [] h f = tt
none_after key {R = R} o k x (y ∷ xs) h f =
    let other =
    elim (is_eq (R (key y) k)) as (λ b. is_eq (R (key y) k) ≡ b → b ≡ false) [
      | true ↦ λ e. absurd (both_ways (is_lt (R x k)) h (ap is_lt (sym (alike_right o (key y) k x (equal_from_is_eq (R (key y) k) e)) ∙ f.0)))
      | false ↦ λ e. refl
    ] refl in
    (other, none_after key o k x xs h f.1)

none_from_all : {X : Type 0} (p : X → Bool) (xs : List X) → AllByRecursion (λ x. p x ≡ false) xs → find p xs ≡ None
none_from_all p [] f = refl
none_from_all p (x ∷ xs) f = rw f.0 (none_from_all p xs f.1)

all_kept : {X : Type 0} (p : X → Bool) (xs : List X) → AllByRecursion (λ x. p x ≡ false) xs → filter (λ x. not (p x)) xs ≡ xs
all_kept p [] f = refl
all_kept p (x ∷ xs) f = rw f.0 (ap (λ ys. x ∷ ys) (all_kept p xs f.1))

-- the rule with the key k is the one at its place, if any is
pub find-at_place : {X K : Type 0} (key : X → K) {R : K → K → Ordering} (o : IsTotalOrder R) (k : K) (xs : List X) → IsStrictlySortedBy R (map key xs) → find (λ x. is_eq (R (key x) k)) xs ≡ option_and_then (λ x. cond (is_eq (R (key x) k)) (Some x) None) (slice_get xs (prefix_len (λ x. is_lt (R (key x) k)) xs))
unfolding IsStrictlySortedBy
find-at_place key o k [] s = refl
find-at_place {X = X} key {R = R} o k (x ∷ xs) s =
    let here : X → Option X = λ x. cond (is_eq (R (key x) k)) (Some x) None in
    elim (is_lt (R (key x) k)) as (λ b. is_lt (R (key x) k) ≡ b → find (λ x. is_eq (R (key x) k)) (x ∷ xs) ≡ option_and_then here (slice_get (x ∷ xs) (cond b (1 + prefix_len (λ x. is_lt (R (key x) k)) xs) 0))) [
      | true ↦ λ h. rw (less_from_is_lt (R (key x) k) h, one_more (prefix_len (λ x. is_lt (R (key x) k)) xs)) (find-at_place key o k xs s.1)
      | false ↦ λ h. rw (none_from_all (λ x. is_eq (R (key x) k)) xs (none_after key o k (key x) xs h s.0)) refl
    ] refl

-- the rules other than k are those beside its place
pub filter-at_place : {X K : Type 0} (key : X → K) {R : K → K → Ordering} (o : IsTotalOrder R) (k : K) (xs : List X) → IsStrictlySortedBy R (map key xs) → (find (λ x. is_eq (R (key x) k)) xs ≡ None → ⊥) → filter (λ x. not (is_eq (R (key x) k))) xs ≡ remove xs (prefix_len (λ x. is_lt (R (key x) k)) xs)
unfolding IsStrictlySortedBy
filter-at_place key o k [] s f = refl
filter-at_place {X = X} key {R = R} o k (x ∷ xs) s f =
    let others : List X = filter (λ x. not (is_eq (R (key x) k))) xs in
    let later = none_after key o k (key x) xs in
    elim (is_lt (R (key x) k)) as (λ b. is_lt (R (key x) k) ≡ b → filter (λ x. not (is_eq (R (key x) k))) (x ∷ xs) ≡ remove (x ∷ xs) (cond b (1 + prefix_len (λ x. is_lt (R (key x) k)) xs) 0)) [
      | true ↦ λ h.
          let before = less_from_is_lt (R (key x) k) h in
          rw (before, one_more (prefix_len (λ x. is_lt (R (key x) k)) xs)) (ap (λ ys. x ∷ ys) (filter-at_place key o k xs s.1 (λ g. f (rw before g))))
      | false ↦ λ h.
          elim (is_eq (R (key x) k)) as (λ b. is_eq (R (key x) k) ≡ b → cond (not b) (x ∷ others) others ≡ xs) [
            | true ↦ λ e. all_kept (λ x. is_eq (R (key x) k)) xs (later h s.0)
            | false ↦ λ e. absurd (f (rw e (none_from_all (λ x. is_eq (R (key x) k)) xs (later h s.0))))
          ] refl
    ] refl

pub IsPartitionedBy-keys : {X K : Type 0} (key : X → K) (p : K → Bool) (xs : List X) → IsPartitionedBy p (map key xs) → IsPartitionedBy (λ x. p (key x)) xs
IsPartitionedBy-keys key p xs f i j d le h t =
    let at_j = get_or-map key xs j d (key d) h in
    let at_i = get_or-map key xs i d (key d) (omega arith) in
    ap p (sym at_i) ∙ f i j (key d) le (omega (arith, length-map xs key)) (ap p at_j ∙ t)

pub prefix_len-partition : {X : Type 0} (p : X → Bool) (xs : List X) (i : ℕ) → i ≤ length xs → IsPartitionPoint (λ x. p x ≡ true) (λ x. p x ≡ false) xs i → prefix_len p xs ≡ i
prefix_len-partition p [] i le h = omega (arith, le)
prefix_len-partition p (x ∷ xs) i le h =
    prefix_len_is p (x ∷ xs) i x le (λ j lt. h.0 j x (omega arith) lt) (λ lt. h.1 i x (omega arith) lt)
