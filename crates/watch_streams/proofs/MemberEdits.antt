-- Members as they are inserted and removed, one after another.
use Rattle.std.proofs.Common.{◌≡◌, ℕ, ◌+◌, ◌<◌, List, [], ◌∷◌, ◌++◌, length, get_or, drop, Bool, true, false, not, ◌||◌, if◌then◌else◌, refl, sym, ap, ◌∙◌, drop-cons, add-one, ◌≤◌, arith}
use Rattle.std.specs.List.{list_any}
use Rattle.std.specs.Ordering.{eq_by_cmp, is_eq, ordering_reverse}
use Rattle.std.specs.declared.cmp.Ordering.{Ordering}
use Rattle.std.specs.declared.cmp.Ordering.TheVariants.{Less, Equal, Greater}
use Rattle.std.proofs.lemmas.List.Folds.{list_any-append}
use Rattle.cl_types.specs.Ascending.{Ascends, put, without as without_at}
use Rattle.cl_types.specs.AscendingLaws.{ascends_put}
use Rattle.cl_types.specs.OrderLaws.{addr_order_exact}
use Rattle.cl_types.specs.SortedSetLaws.{list_any-sorted_set, ascending_same}
use Rattle.watch_streams.specs.Difference.{has_member, members_without}
use Rattle.watch_streams.specs.MemberOrder.{member_order_total, member_exact, ascends_members}
use Rattle.watch_streams.specs.Net.{MemberData, member_order, ascending_members}
use Rattle.watch_streams.proofs.ListOrders.{nothing_left}
use Rattle.watch_streams.proofs.Members.{members_of_itself}

abbrev Up : List MemberData → Type 0
Up ms = Ascends (λ m. m) member_order ms

abbrev with_member : MemberData → List MemberData → List MemberData
with_member m ms = put (λ n. member_order n m) m ms

-- one more is inserted before those that are left
inserted : (rest : List MemberData) (m : MemberData) (ms : List MemberData) → Up ms → ascending_members (rest ++ with_member m ms) ≡ ascending_members ((rest ++ m ∷ []) ++ ms)
inserted [] m ms up =
    members_of_itself (with_member m ms) (ascends_put (λ n. n) member_order_total m ms up) ∙ ap (with_member m) (sym (members_of_itself ms up))
inserted (r ∷ rest) m ms up = ap (with_member r) (inserted rest m ms up)

pub insert_more : (added rest : List MemberData) (m : MemberData) (ms new all : List MemberData) → Up ms → added ≡ rest ++ m ∷ [] → new ≡ with_member m ms → ascending_members (added ++ ms) ≡ all
    → ascending_members (rest ++ new) ≡ all
insert_more added rest m ms new all up split is before =
    ap (λ l. ascending_members (rest ++ l)) is ∙ inserted rest m ms up ∙ ap (λ l. ascending_members (l ++ ms)) (sym split) ∙ before

-- all are inserted
pub insert_done : (added ms all : List MemberData) → length added ≡ 0 → Up ms → ascending_members (added ++ ms) ≡ all → ms ≡ all
insert_done [] ms all none up e = sym (members_of_itself ms up) ∙ e
insert_done (m ∷ added) ms all none up e = absurd (omega arith)

or_swapped : (a b : Bool) → (a || b) ≡ (b || a)
or_swapped true true = refl
or_swapped true false = refl
or_swapped false true = refl
or_swapped false false = refl

-- a set doesn't look at the order of two lists
pub either_order : (xs ys : List MemberData) → ascending_members (xs ++ ys) ≡ ascending_members (ys ++ xs)
either_order xs ys =
    ascending_same member_order_total exact (ascending_members (xs ++ ys)) (ascending_members (ys ++ xs)) (ascends_members (xs ++ ys)) (ascends_members (ys ++ xs))
    (λ m.
    list_any-sorted_set exact (eq_by_cmp member_order m) (xs ++ ys)
    ∙ list_any-append (eq_by_cmp member_order m) xs ys
    ∙ or_swapped (list_any (eq_by_cmp member_order m) xs) (list_any (eq_by_cmp member_order m) ys)
    ∙ sym (list_any-append (eq_by_cmp member_order m) ys xs)
    ∙ sym (list_any-sorted_set exact (eq_by_cmp member_order m) (ys ++ xs)))
  where
    exact : (a b : MemberData) → member_order a b ≡ Equal → a ≡ b
    exact = member_exact addr_order_exact

-- ---- removals

either_way : (a b : MemberData) → is_eq (member_order a b) ≡ is_eq (member_order b a)
either_way a b = ap is_eq (member_order_total.antisymm a b) ∙ back (member_order b a)
  where
    back : (r : Ordering) → is_eq (ordering_reverse r) ≡ is_eq r
    back Less = refl
    back Equal = refl
    back Greater = refl

removed_first : (r : MemberData) (rest ms : List MemberData) → members_without (without_at (λ n. member_order n r) ms) rest ≡ members_without ms (r ∷ rest)
removed_first r rest [] = refl
removed_first r rest (m ∷ ms) = by_test (is_eq (member_order m r)) (is_eq (member_order r m)) (either_way m r) (removed_first r rest ms)
  where
    kept : List MemberData
    kept = without_at (λ n. member_order n r) ms

    also : (c : Bool) → members_without kept rest ≡ members_without ms (r ∷ rest)
        → (if not c then m ∷ members_without kept rest else members_without kept rest) ≡ (if not c then m ∷ members_without ms (r ∷ rest) else members_without ms (r ∷ rest))
    also true later = later
    also false later = ap (λ l. m ∷ l) later

    by_test : (a b : Bool) → a ≡ b → members_without kept rest ≡ members_without ms (r ∷ rest)
        → members_without (if not a then m ∷ kept else kept) rest ≡ (if not (b || has_member rest m) then m ∷ members_without ms (r ∷ rest) else members_without ms (r ∷ rest))
    by_test true true is later = later
    by_test true false is later = cc
    by_test false true is later = cc
    by_test false false is later = also (has_member rest m) later

pub remove_more : (removed : List MemberData) (i : ℕ) (r : MemberData) (ms new all : List MemberData) → i < length removed → r ≡ get_or removed i r → new ≡ without_at (λ n. member_order n r) ms
    → members_without ms (drop i removed) ≡ all → members_without new (drop (i + 1) removed) ≡ all
remove_more removed i r ms new all within here is before =
    let split : drop i removed ≡ r ∷ drop (i + 1) removed = rw (add-one, drop-cons removed i r within, ← here) refl in
    ap (λ l. members_without l (drop (i + 1) removed)) is ∙ removed_first r (drop (i + 1) removed) ms ∙ ap (members_without ms) (sym split) ∙ before

none_removed : (ms : List MemberData) → members_without ms [] ≡ ms
none_removed [] = refl
none_removed (m ∷ ms) = ap (λ l. m ∷ l) (none_removed ms)

pub remove_done : (removed : List MemberData) (i : ℕ) (ms all : List MemberData) → length removed ≤ i → members_without ms (drop i removed) ≡ all → ms ≡ all
remove_done removed i ms all end before =
    sym (none_removed ms) ∙ ap (members_without ms) (sym (nothing_left member_order removed i end)) ∙ before
