-- Members of groups as sets.
use Rattle.std.proofs.Common.{◌≡◌, List, [], ◌∷◌, ◌++◌, Bool, true, false, not, ◌&&◌, ◌||◌, Option, Some, None, filter, refl, sym, ap, ◌∙◌, true≢false}
use Rattle.std.specs.List.{AllByRecursion, list_any}
use Rattle.std.specs.declared.cmp.Ordering.{Ordering}
use Rattle.std.specs.declared.cmp.Ordering.TheVariants.{Less, Equal, Greater}
use Rattle.std.proofs.lemmas.List.Folds.{list_any-append}
use Rattle.cl_types.specs.declared.addr.Addr.{Addr}
use Rattle.cl_types.specs.Addr.{addr_order}
use Rattle.std.specs.Ordering.{is_eq, match_ordering}
use Rattle.cl_types.specs.Ascending.{Ascends, found, put}
use Rattle.watch_streams.specs.Difference.{has_member, members_without, patched}
use Rattle.watch_streams.specs.Net.{MemberData, member_order, ascending_members}
use Rattle.cl_types.specs.AscendingLaws.{ascends_filter}
use Rattle.watch_streams.specs.MemberOrder.{member_order_total, member_exact, ascends_members}
use Rattle.cl_types.specs.SortedSetLaws.{list_any-sorted_set}
use Rattle.watch_streams.specs.OneOfAll.{and_false, and_true, list_any-and, list_any-each, list_any-filter}
use Rattle.cl_types.specs.AscendingLaws.{equal_maps, none_behind}

-- the member alone, where it is there
abbrev only : Bool → MemberData → Option MemberData
only true m = Some m
only false m = None

not_only : (b : Bool) (m : MemberData) → only b m ≡ None → b ≡ false
not_only true m e = cc
not_only false m e = refl

-- the members that were had, the added ones and not the removed ones are the new ones
set_step : (old new : Bool) → ((old || (new && not old)) && not (old && not new)) ≡ new
set_step true true = refl
set_step true false = refl
set_step false true = refl
set_step false false = refl

set_same : (old new : Bool) → (new && not old) ≡ false → (old && not new) ≡ false → old ≡ new
set_same true true a b = refl
set_same true false a b = absurd (true≢false b)
set_same false true a b = absurd (true≢false a)
set_same false false a b = refl

-- a list that ascends is the set of its members
pub members_of_itself : (ms : List MemberData) → Ascends (λ m. m) member_order ms → ascending_members ms ≡ ms
members_of_itself [] up = refl
members_of_itself (m ∷ ms) up =
    ap (put (λ n. member_order n m) m) (members_of_itself ms up.1) ∙ put_first ms up.0
  where
    put_first : (ns : List MemberData) → AllByRecursion (λ n. member_order m n ≡ Less) ns → put (λ n. member_order n m) m ns ≡ m ∷ ns
    put_first [] h = refl
    put_first (n ∷ ns) h = rw (member_order_total.antisymm n m, h.0) refl

module _ (addr_exact : (a b : Addr) → addr_order a b ≡ Equal → a ≡ b) where
  exact : (a b : MemberData) → member_order a b ≡ Equal → a ≡ b
  exact = member_exact addr_exact

  -- some member passes in ascending order where some does in any order
  pub list_any-ascending : (p : MemberData → Bool) (ms : List MemberData) → list_any p (ascending_members ms) ≡ list_any p ms
  list_any-ascending = list_any-sorted_set exact

  has_filter : (p : MemberData → Bool) (xs : List MemberData) (m : MemberData) → has_member (filter p xs) m ≡ (has_member xs m && p m)
  has_filter p xs m =
      list_any-filter (λ n. is_eq (member_order n m)) p xs
      ∙ list_any-each (λ n. p n && is_eq (member_order n m)) (λ n. is_eq (member_order n m) && p m) (λ n. by_order n (member_order n m) refl) xs
      ∙ list_any-and (λ n. is_eq (member_order n m)) (p m) xs
    where
      by_order : (n : MemberData) (r : Ordering) → member_order n m ≡ r → (p n && is_eq r) ≡ (is_eq r && p m)
      by_order n Less is = and_false (p n)
      by_order n Equal is = and_true (p n) ∙ ap p (exact n m is)
      by_order n Greater is = and_false (p n)

  -- a member of an ascending list is found as itself
  found_member : (xs : List MemberData) (m : MemberData) → Ascends (λ n. n) member_order xs → found (λ n. member_order n m) xs ≡ only (has_member xs m) m
  found_member [] m up = refl
  found_member (x ∷ xs) m up = by_order (member_order x m) refl (found_member xs m up.1)
    where
      by_order : (r : Ordering) → member_order x m ≡ r → found (λ n. member_order n m) xs ≡ only (has_member xs m) m
          → match_ordering r (found (λ n. member_order n m) xs) (Some x) None ≡ only (is_eq r || has_member xs m) m
      by_order Less is rest = rest
      by_order Equal is rest = ap Some (exact x m is)
      by_order Greater is rest =
          let behind = none_behind (λ n. n) member_order_total m x xs Greater is (λ q. cc) up.0 in
          ap (λ b. only b m) (sym (not_only (has_member xs m) m (sym rest ∙ behind)))

  same_members : (xs ys : List MemberData) → Ascends (λ m. m) member_order xs → Ascends (λ m. m) member_order ys → ((m : MemberData) → has_member xs m ≡ has_member ys m) → xs ≡ ys
  same_members xs ys up vp f =
      equal_maps (λ m. m) member_order_total xs ys up vp (λ m. found_member xs m up ∙ (ap (λ b. only b m) (f m) ∙ sym (found_member ys m vp)))

  -- adding what is new and removing what is gone leads to the new members
  pub patched_is : (old new : List MemberData) → Ascends (λ m. m) member_order new → patched old (members_without new old) (members_without old new) ≡ new
  patched_is old new vp =
      same_members (patched old (members_without new old) (members_without old new)) new
      (ascends_filter (λ m. m) member_order_total (λ m. not (has_member (members_without old new) m)) _ (ascends_members (old ++ members_without new old))) vp
      (λ m.
      has_filter (λ n. not (has_member (members_without old new) n)) (ascending_members (old ++ members_without new old)) m
      ∙ (ap (λ b. b && not (has_member (members_without old new) m)) (list_any-ascending (λ n. is_eq (member_order n m)) (old ++ members_without new old) ∙ list_any-append (λ n. is_eq (member_order n m)) old (members_without new old))
      ∙ (ap (λ b. (has_member old m || b) && not (has_member (members_without old new) m)) (has_filter (λ n. not (has_member old n)) new m)
      ∙ (ap (λ b. (has_member old m || (has_member new m && not (has_member old m))) && not b) (has_filter (λ n. not (has_member new n)) old m)
      ∙ set_step (has_member old m) (has_member new m)))))

  pub unpatched_is : (old new : List MemberData) → Ascends (λ m. m) member_order old → Ascends (λ m. m) member_order new
      → members_without new old ≡ [] → members_without old new ≡ [] → old ≡ new
  unpatched_is old new up vp added removed =
      same_members old new up vp (λ m.
      set_same (has_member old m) (has_member new m)
      (sym (has_filter (λ n. not (has_member old n)) new m) ∙ ap (λ l. has_member l m) added)
      (sym (has_filter (λ n. not (has_member new n)) old m) ∙ ap (λ l. has_member l m) removed))
