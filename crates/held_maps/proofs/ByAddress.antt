-- A search by address among members that ascend ends at a member exactly where one has the address.
use Rattle.std.proofs.Common.{◌≡◌, ℕ, zero, suc, ◌+◌, ◌<◌, ◌≤◌, ◌||◌, List, [], ◌∷◌, length, get_or, Bool, true, false, Result, Ok, Err, refl, sym, ap, ◌∙◌, arith}
use Rattle.std.specs.List.{list_any}
use Rattle.std.specs.List.Sorted.{IsSearchInRange, IsBinarySearchResult, IsSortedBy}
use Rattle.std.specs.declared.cmp.Ordering.{Ordering}
use Rattle.std.specs.declared.cmp.Ordering.TheVariants.{Less, Equal, Greater}
use Rattle.std.specs.Ordering.{is_eq, is_lt, ordering_reverse, ordering_then}
use Rattle.std.specs.Result.{is_ok}
use Rattle.std.proofs.lemmas.List.Sorted.{searchable_from_sorted}
use Rattle.cl_types.specs.declared.addr.Addr.{Addr}
use Rattle.cl_types.specs.Addr.{addr_order, addr_order_total}
use Rattle.cl_types.specs.AddrEq.{addr_eq_by_order}
use Rattle.cl_types.specs.Ascending.{Ascends}
use Rattle.cl_types.specs.SearchLaws.{ascends_between}
use Rattle.watch_streams.specs.HeldEvaluation.{is_at}
use Rattle.watch_streams.specs.Net.{MemberData, member_order}

module _ {T : Type 0} (p : T → Bool) where
  or_true : (b : Bool) → (b || true) ≡ true
  or_true true = refl
  or_true false = refl

  any_at_place : (xs : List T) (i : ℕ) (d : T) → i < length xs → p (get_or xs i d) ≡ true → list_any p xs ≡ true
  any_at_place [] i d within here = absurd (omega arith)
  any_at_place (x ∷ xs) zero d within here = ap (λ b. b || list_any p xs) here
  any_at_place (x ∷ xs) (suc i) d within here = ap (λ b. p x || b) (any_at_place xs i d (omega arith) here) ∙ or_true (p x)

  none_at_places : (xs : List T) → ((i : ℕ) (d : T) → i < length xs → p (get_or xs i d) ≡ false) → list_any p xs ≡ false
  none_at_places [] none = refl
  none_at_places (x ∷ xs) none = ap (λ b. b || list_any p xs) (none zero x (omega arith)) ∙ none_at_places xs (λ i d within. none (suc i) d (omega arith))

not_less_back : (r s : Ordering) → ordering_then r s ≡ Less → is_lt (ordering_reverse r) ≡ false
not_less_back Less s e = refl
not_less_back Equal s e = refl
not_less_back Greater s e = cc

by_address : (ms : List MemberData) → Ascends (λ m. m) member_order ms → IsSortedBy (λ (a b : MemberData). is_lt (addr_order a.address b.address)) ms
by_address ms up i d lo hi =
    ap is_lt (addr_order_total.antisymm (get_or ms (i + 1) d).address (get_or ms i d).address)
    ∙ not_less_back (addr_order (get_or ms i d).address (get_or ms (i + 1) d).address) _ (ascends_between (λ m. m) member_order ms i (i + 1) d up (omega arith) (omega arith))

at_order : (a : Addr) (m : MemberData) (r : Ordering) → addr_order m.address a ≡ r → is_at a m ≡ is_eq r
at_order a m r is = addr_eq_by_order m.address a ∙ ap is_eq is

by_side : (k i : ℕ) (P : Type 0) → (k < i → P) → (i ≤ k → P) → P
by_side k zero P before behind = behind (omega arith)
by_side zero (suc i) P before behind = before (omega arith)
by_side (suc k) (suc i) P before behind = by_side k i P (λ h. before (omega arith)) (λ h. behind (omega arith))

pub found_by_address : (a : Addr) (ms : List MemberData) → Ascends (λ m. m) member_order ms → (r : Result ℕ ℕ) → IsSearchInRange r (length ms) → IsBinarySearchResult (λ (m : MemberData). addr_order m.address a) ms r
    → is_ok r ≡ list_any (is_at a) ms
found_by_address a [] up (Ok i) within here = absurd (omega arith)
found_by_address a (m ∷ ms) up (Ok i) within here =
    sym (any_at_place (is_at a) (m ∷ ms) i m within (at_order a (get_or (m ∷ ms) i m) Equal (here m)))
found_by_address a ms up (Err i) within parted =
    let parts = parted (searchable_from_sorted addr_order_total (λ (m : MemberData). m.address) ms a (by_address ms up)) in
    sym (none_at_places (is_at a) ms
    (λ k d inside. by_side k i (is_at a (get_or ms k d) ≡ false) (λ before. at_order a (get_or ms k d) Less (parts.0 k d (omega arith) before)) (λ behind. at_order a (get_or ms k d) Greater (parts.1 k d behind inside))))
