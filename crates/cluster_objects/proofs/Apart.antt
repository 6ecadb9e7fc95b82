-- A pod that takes no address of another stays apart from all.
use Rattle.std.proofs.Common.{◌≡◌, List, [], ◌∷◌, Bool, true, false, not, ◌&&◌, ◌||◌, Some, None, find, filter, if◌then◌else◌, refl, sym, ap, ◌∙◌}
use borrow.Author.Tests.{eqb-true}
use Rattle.std.specs.List.{list_any, AllByRecursion}
use Rattle.std.specs.declared.cmp.Ordering.{Ordering}
use Rattle.std.specs.declared.cmp.Ordering.TheVariants.{Less, Equal, Greater}
use Rattle.std.specs.Ordering.{is_eq, match_ordering, ordering_reverse}
use Rattle.std.proofs.lemmas.Bool.{true≢false}
use Rattle.cl_types.specs.declared.addr.Addr.{Addr}
use Rattle.cl_types.specs.declared.addr.Addr.TheVariants.{V4, V6}
use Rattle.cl_types.specs.AscendingLaws.{all_put}
use Rattle.cl_types.specs.ListLaws.{all_filter}
use Rattle.cl_types.specs.Ascending.{Ascends, put}
use Rattle.cl_types.specs.Addr.{addr_eq}
use Rattle.cl_types.specs.AddrEq.{addr_eq-itself}
use Rattle.cl_types.specs.RuleOrder.{pod_order, pod_order_total}
use Rattle.cluster_objects.specs.Apply.{at_pod}
use Rattle.cluster_objects.specs.Refusals.{takes_address}
use Rattle.cluster_objects.proofs.Refusals.{neither}
use Rattle.cluster_types.specs.Pod.{has_address}
use Rattle.cluster_types.specs.Pod.{counts}
use Rattle.cluster_types.specs.Cluster.{AreApart, AllApart}
use Rattle.cluster_types.specs.Pod.{PodData}

addr_eq-one : (a b : Addr) → addr_eq a b ≡ true → a ≡ b
addr_eq-one (V4 n) (V4 m) h = ap V4 (eqb-true n m h)
addr_eq-one (V4 n) (V6 m) h = cc
addr_eq-one (V6 n) (V4 m) h = cc
addr_eq-one (V6 n) (V6 m) h = ap V6 (eqb-true n m h)

-- where q has none of the addresses, it has no address that is among them
none_shared : (q : PodData) (given : List Addr) → list_any (λ a. has_address a q) given ≡ false → (a : Addr) → list_any (λ b. addr_eq b a) given ≡ true → has_address a q ≡ true → ⊥
none_shared q [] none a among has = true≢false (sym among)
none_shared q (x ∷ xs) none a among has =
    by_test (addr_eq x a) refl among (λ rest. none_shared q xs (neither (has_address x q) (list_any (λ b. has_address b q) xs) none).1 a rest has)
  where
    by_test : (t : Bool) → addr_eq x a ≡ t → t || list_any (λ b. addr_eq b a) xs ≡ true → (list_any (λ b. addr_eq b a) xs ≡ true → ⊥) → ⊥
    by_test true is e rest = true≢false (sym has ∙ ap (λ b. has_address b q) (sym (addr_eq-one x a is)) ∙ (neither (has_address x q) (list_any (λ b. has_address b q) xs) none).0)
    by_test false is e rest = rest e

-- a pod at another key, which doesn't take an address, is apart
abbrev IsFree : PodData → PodData → Type 0
IsFree p q = (pod_order q.key p.key ≡ Equal → ⊥) → AreApart p q

other_key : (r : Ordering) → (r ≡ Equal → ⊥) → not (is_eq r) ≡ true
other_key Less other = refl
other_key Equal other = absurd (other refl)
other_key Greater other = refl

free_of : (p q : PodData) → takes_address p q ≡ false → IsFree p q
free_of p q not_taken other p_counts q_counts a p_has q_has =
    none_shared q p.addresses (last (not (is_eq (pod_order q.key p.key))) (counts q) (list_any (λ b. has_address b q) p.addresses) not_taken (other_key (pod_order q.key p.key) other) q_counts) a p_has q_has
  where
    last : (s t u : Bool) → s && t && u ≡ false → s ≡ true → t ≡ true → u ≡ false
    last true true u h s t = h
    last true false u h s t = cc
    last false t u h s e = cc

none_found : (p : PodData) (qs : List PodData) → find (takes_address p) qs ≡ None → AllByRecursion (IsFree p) qs
none_found p [] none = tt
none_found p (q ∷ qs) none = by_test (takes_address p q) refl none (none_found p qs)
  where
    by_test : (t : Bool) → takes_address p q ≡ t → (if t then Some q else find (takes_address p) qs) ≡ None → (find (takes_address p) qs ≡ None → AllByRecursion (IsFree p) qs) → AllByRecursion (IsFree p) (q ∷ qs)
    by_test true is e rest = cc
    by_test false is e rest = (free_of p q is, rest e)

all_free_uncounted : (p : PodData) → counts p ≡ false → (qs : List PodData) → AllByRecursion (IsFree p) qs
all_free_uncounted p uncounted [] = tt
all_free_uncounted p uncounted (q ∷ qs) = (λ other p_counts. absurd (true≢false (sym p_counts ∙ uncounted)), all_free_uncounted p uncounted qs)

pub all_free : (p : PodData) (qs : List PodData) → (if counts p then find (takes_address p) qs else None) ≡ None → AllByRecursion (IsFree p) qs
all_free p qs none = by_test (counts p) refl none
  where
    by_test : (t : Bool) → counts p ≡ t → (if t then find (takes_address p) qs else None) ≡ None → AllByRecursion (IsFree p) qs
    by_test true is e = none_found p qs e
    by_test false is e = all_free_uncounted p is qs

-- ---- a pod is put

turned : (p q : PodData) → AreApart p q → AreApart q p
turned p q apart q_counts p_counts a q_has p_has = apart p_counts q_counts a p_has q_has

less-equal : Less ≡ Equal → ⊥
less-equal e = cc

greater-equal : Greater ≡ Equal → ⊥
greater-equal e = cc

greater-less : Greater ≡ Less → ⊥
greater-less e = cc

-- past a key that isn't before p's, none is p's
past : (p y z : PodData) → (pod_order y.key p.key ≡ Less → ⊥) → pod_order y.key z.key ≡ Less → pod_order z.key p.key ≡ Equal → ⊥
past p y z not_before less same =
    let back : pod_order p.key z.key ≡ Equal = pod_order_total.antisymm p.key z.key ∙ ap ordering_reverse same in
    let after : pod_order z.key y.key ≡ Greater = pod_order_total.antisymm z.key y.key ∙ ap ordering_reverse less in
    let same_place : pod_order p.key y.key ≡ pod_order z.key y.key = pod_order_total.congr p.key z.key y.key back in
    not_before (pod_order_total.antisymm y.key p.key ∙ ap ordering_reverse (same_place ∙ after))

put_apart_at : (p : PodData) (qs : List PodData) → Ascends (λ (q : PodData). q.key) pod_order qs → AllByRecursion (IsFree p) qs → AllApart qs → AllApart (put (at_pod p.key) p qs)
put_apart_at p [] ascends free apart = (tt, tt)
put_apart_at p (y ∷ ys) ascends free apart = by_place (pod_order y.key p.key) refl (put_apart_at p ys ascends.1 free.1 apart.1)
  where
    rest : (pod_order y.key p.key ≡ Less → ⊥) → (zs : List PodData) → AllByRecursion (λ (z : PodData). pod_order y.key z.key ≡ Less) zs → AllByRecursion (IsFree p) zs → AllByRecursion (AreApart p) zs
    rest not_before [] less all = tt
    rest not_before (z ∷ zs) less all = (all.0 (past p y z not_before less.0), rest not_before zs less.1 all.1)

    by_place : (r : Ordering) → pod_order y.key p.key ≡ r → AllApart (put (at_pod p.key) p ys) → AllApart (match_ordering r (y ∷ put (at_pod p.key) p ys) (p ∷ ys) (p ∷ y ∷ ys))
    by_place Less is more = (all_put (at_pod p.key) (AreApart y) p ys (turned p y (free.0 (λ e. less-equal (sym is ∙ e)))) apart.0, more)
    by_place Equal is more = (rest (λ e. less-equal (sym e ∙ is)) ys ascends.0 free.1, apart.1)
    by_place Greater is more = ((free.0 (λ e. greater-equal (sym is ∙ e)), rest (λ e. greater-less (sym is ∙ e)) ys ascends.0 free.1), (apart.0, apart.1))

pub put_apart : (p : PodData) (qs : List PodData) → Ascends (λ (q : PodData). q.key) pod_order qs → (if counts p then find (takes_address p) qs else None) ≡ None → AllApart qs → AllApart (put (at_pod p.key) p qs)
put_apart p qs ascends none apart = put_apart_at p qs ascends (all_free p qs none) apart

-- ---- pods are left out

-- what a test keeps of pods that are apart is apart
pub kept_apart : (keep : PodData → Bool) (qs : List PodData) → AllApart qs → AllApart (filter keep qs)
kept_apart keep [] apart = tt
kept_apart keep (q ∷ qs) apart = by_test (keep q) (kept_apart keep qs apart.1)
  where
    by_test : (b : Bool) → AllApart (filter keep qs) → AllApart (if b then q ∷ filter keep qs else filter keep qs)
    by_test true rest = (all_filter (AreApart q) keep qs apart.0, rest)
    by_test false rest = rest

-- ---- a pod stands where all are apart

-- a pod that takes an address has one of the addresses
takes_one : (q : PodData) (given : List Addr) → list_any (λ a. has_address a q) given ≡ true → (a : Addr) × ((list_any (λ b. addr_eq b a) given ≡ true) × (has_address a q ≡ true))
takes_one q [] some = absurd (true≢false (sym some))
takes_one q (x ∷ xs) some = by_test (has_address x q) refl some (takes_one q xs)
  where
    by_test : (t : Bool) → has_address x q ≡ t → t || list_any (λ a. has_address a q) xs ≡ true
        → (list_any (λ a. has_address a q) xs ≡ true → (a : Addr) × ((list_any (λ b. addr_eq b a) xs ≡ true) × (has_address a q ≡ true)))
        → (a : Addr) × ((addr_eq x a || list_any (λ b. addr_eq b a) xs ≡ true) × (has_address a q ≡ true))
    by_test true is e later = (x, (ap (λ t. t || list_any (λ b. addr_eq b x) xs) (addr_eq-itself x), is))
    by_test false is e later =
        let found = later e in
        (found.0, (ap (λ t. addr_eq x found.0 || t) found.1.0 ∙ or_true (addr_eq x found.0), found.1.1))
      where
        or_true : (t : Bool) → t || true ≡ true
        or_true true = refl
        or_true false = refl

-- none of the pods that are apart takes an address
untaken : (p q : PodData) → counts p ≡ true → AreApart p q → takes_address p q ≡ false
untaken p q counting apart = by_test (takes_address p q) refl
  where
    last_two : (s t u : Bool) → s && t && u ≡ true → (t ≡ true) × (u ≡ true)
    last_two true true true h = (refl, refl)
    last_two true true false h = cc
    last_two true false u h = cc
    last_two false t u h = cc

    by_test : (t : Bool) → takes_address p q ≡ t → t ≡ false
    by_test true is =
        let parts = last_two (not (is_eq (pod_order q.key p.key))) (counts q) (list_any (λ a. has_address a q) p.addresses) is in
        let one = takes_one q p.addresses parts.1 in
        absurd (apart counting parts.0 one.0 one.1.0 one.1.1)
    by_test false is = refl

none_takes : (p : PodData) (qs : List PodData) → counts p ≡ true → AllByRecursion (AreApart p) qs → find (takes_address p) qs ≡ None
none_takes p [] counting apart = refl
none_takes p (q ∷ qs) counting apart = ap (λ b. if b then Some q else find (takes_address p) qs) (untaken p q counting apart.0) ∙ none_takes p qs counting apart.1

-- what holds of all after a put holds of what was put
of_put : (at : PodData → Ordering) (P : PodData → Type 0) (x : PodData) (xs : List PodData) → AllByRecursion P (put at x xs) → P x
of_put at P x [] all = all.0
of_put at P x (y ∷ ys) all = by_order (at y) all (of_put at P x ys)
  where
    by_order : (r : Ordering) → AllByRecursion P (match_ordering r (y ∷ put at x ys) (x ∷ ys) (x ∷ y ∷ ys)) → (AllByRecursion P (put at x ys) → P x) → P x
    by_order Less a later = later a.1
    by_order Equal a later = a.0
    by_order Greater a later = a.0

at_own_key : (r : Ordering) (c l : Bool) → r ≡ Equal → not (is_eq r) && c && l ≡ false
at_own_key Less c l e = cc
at_own_key Equal c l e = refl
at_own_key Greater c l e = cc

not_taken_at : (p : PodData) (qs : List PodData) → counts p ≡ true → AllApart (put (at_pod p.key) p qs) → find (takes_address p) qs ≡ None
not_taken_at p [] counting apart = refl
not_taken_at p (q ∷ qs) counting apart = by_order (pod_order q.key p.key) refl apart (not_taken_at p qs counting)
  where
    skipped : takes_address p q ≡ false → find (takes_address p) qs ≡ None → (if takes_address p q then Some q else find (takes_address p) qs) ≡ None
    skipped is rest = ap (λ b. if b then Some q else find (takes_address p) qs) is ∙ rest

    by_order : (r : Ordering) → pod_order q.key p.key ≡ r → AllApart (match_ordering r (q ∷ put (at_pod p.key) p qs) (p ∷ qs) (p ∷ q ∷ qs))
        → (AllApart (put (at_pod p.key) p qs) → find (takes_address p) qs ≡ None) → (if takes_address p q then Some q else find (takes_address p) qs) ≡ None
    by_order Less is all later = skipped (untaken p q counting (turned q p (of_put (at_pod p.key) (AreApart q) p qs all.0))) (later all.1)
    by_order Equal is all later = skipped (at_own_key (pod_order q.key p.key) (counts q) (list_any (λ a. has_address a q) p.addresses) is) (none_takes p qs counting all.0)
    by_order Greater is all later = skipped (untaken p q counting all.0.0) (none_takes p qs counting all.0.1)

-- where all are apart once a pod stands, no other takes an address of it
pub not_taken : (p : PodData) (qs : List PodData) → AllApart (put (at_pod p.key) p qs) → (if counts p then find (takes_address p) qs else None) ≡ None
not_taken p qs apart = by_test (counts p) refl
  where
    by_test : (t : Bool) → counts p ≡ t → (if t then find (takes_address p) qs else None) ≡ None
    by_test true is = not_taken_at p qs is apart
    by_test false is = refl
