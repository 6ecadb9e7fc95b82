-- What edits of an ascending list keep, what stands at each key after them, and when two such lists are one.
use Rattle.std.proofs.Common.{◌≡◌, ℕ, zero, suc, ◌<◌, ◌≤◌, List, [], ◌∷◌, length, get_or, set, Bool, true, false, not, ◌||◌, Option, Some, None, if◌then◌else◌, filter, refl, sym, ap, subst, ◌∙◌, arith}
use Rattle.std.specs.declared.cmp.Ordering.{Ordering}
use Rattle.std.specs.declared.cmp.Ordering.TheVariants.{Less, Equal, Greater}
use Rattle.std.specs.Cmp.{IsTotalOrder}
use Rattle.std.specs.List.{insert, remove, AllByRecursion, AllWithin, HoldsAt, list_any}
use Rattle.std.specs.Ordering.{is_eq, match_ordering, ordering_reverse}
use Rattle.std.proofs.lemmas.Cmp.{tied_itself, tied_back}
use Rattle.cl_types.specs.Ascending.{Ascends, found, put, without, sorted_by}
use Rattle.cl_types.specs.ListLaws.{all_weaker, all_filter, filter_all, or_swap, or_twice}

-- ---- places and gaps

module _ {T : Type 0} (at : T → Ordering) where
  -- the item found at a place is the one that stands there
  pub found_at_place : (xs : List T) (i : ℕ) (d : T) → i < length xs → HoldsAt (λ y. at y ≡ Equal) xs i → AllWithin (λ y. at y ≡ Less) xs 0 i → found at xs ≡ Some (get_or xs i d)
  found_at_place [] i d within here before = absurd (omega arith)
  found_at_place (x ∷ xs) zero d within here before = rw (here d) refl
  found_at_place (x ∷ xs) (suc i) d within here before =
      rw (before 0 d (omega arith) (omega arith)) (found_at_place xs i d (omega arith) here (λ k e lo hi. before (suc k) e (omega arith) (omega arith)))

  -- where there is a gap, nothing is found
  pub found_in_gap : (xs : List T) (i : ℕ) → i ≤ length xs → AllWithin (λ y. at y ≡ Less) xs 0 i → AllWithin (λ y. at y ≡ Greater) xs i (length xs) → found at xs ≡ None
  found_in_gap [] i within before after = refl
  found_in_gap (x ∷ xs) zero within before after = rw (after 0 x (omega arith) (omega arith)) refl
  found_in_gap (x ∷ xs) (suc i) within before after =
      rw (before 0 x (omega arith) (omega arith)) (found_in_gap xs i (omega arith) (λ k e lo hi. before (suc k) e (omega arith) (omega arith)) (λ k e lo hi. after (suc k) e (omega arith) (omega arith)))

  -- a put at a place replaces the item there
  pub put_at_place : (x : T) (xs : List T) (i : ℕ) → i < length xs → HoldsAt (λ y. at y ≡ Equal) xs i → AllWithin (λ y. at y ≡ Less) xs 0 i → put at x xs ≡ set xs i x
  put_at_place x [] i within here before = absurd (omega arith)
  put_at_place x (y ∷ ys) zero within here before = rw (here x) refl
  put_at_place x (y ∷ ys) (suc i) within here before =
      rw (before 0 y (omega arith) (omega arith)) (ap (λ zs. y ∷ zs) (put_at_place x ys i (omega arith) here (λ k e lo hi. before (suc k) e (omega arith) (omega arith))))

  -- a put in a gap inserts there
  pub put_in_gap : (x : T) (xs : List T) (i : ℕ) → i ≤ length xs → AllWithin (λ y. at y ≡ Less) xs 0 i → AllWithin (λ y. at y ≡ Greater) xs i (length xs) → put at x xs ≡ insert xs i x
  put_in_gap x [] zero within before after = refl
  put_in_gap x [] (suc i) within before after = absurd (omega arith)
  put_in_gap x (y ∷ ys) zero within before after = rw (after 0 y (omega arith) (omega arith)) refl
  put_in_gap x (y ∷ ys) (suc i) within before after =
      rw (before 0 y (omega arith) (omega arith)) (ap (λ zs. y ∷ zs) (put_in_gap x ys i (omega arith) (λ k e lo hi. before (suc k) e (omega arith) (omega arith)) (λ k e lo hi. after (suc k) e (omega arith) (omega arith))))

-- ---- puts

-- what holds of all items and of x holds of all once x is put
pub all_put : {T : Type 0} (at : T → Ordering) (P : T → Type 0) (x : T) (xs : List T) → P x → AllByRecursion P xs → AllByRecursion P (put at x xs)
all_put at P x [] one all = (one, tt)
all_put at P x (y ∷ ys) one all = by_cases (at y) (all_put at P x ys one all.1)
  where
    by_cases : (o : Ordering) → AllByRecursion P (put at x ys) → AllByRecursion P (match_ordering o (y ∷ put at x ys) (x ∷ ys) (x ∷ y ∷ ys))
    by_cases Less later = (all.0, later)
    by_cases Equal later = (one, all.1)
    by_cases Greater later = (one, all)

module _ {T K : Type 0} (key : T → K) {cmp : K → K → Ordering} (o : IsTotalOrder cmp) where
  -- a list that ascends does so once an item is put at its key
  pub ascends_put : (x : T) (xs : List T) → Ascends key cmp xs → Ascends key cmp (put (λ y. cmp (key y) (key x)) x xs)
  ascends_put x [] up = (tt, tt)
  ascends_put x (y ∷ ys) up = by_cases (cmp (key y) (key x)) refl (ascends_put x ys up.1)
    where
      by_cases : (r : Ordering) → cmp (key y) (key x) ≡ r → Ascends key cmp (put (λ z. cmp (key z) (key x)) x ys) → Ascends key cmp (match_ordering r (y ∷ put (λ z. cmp (key z) (key x)) x ys) (x ∷ ys) (x ∷ y ∷ ys))
      by_cases Less is later = (all_put (λ z. cmp (key z) (key x)) (λ z. cmp (key y) (key z) ≡ Less) x ys is up.0, later)
      by_cases Equal is later = (all_weaker _ _ (λ z less. sym (o.congr (key y) (key x) (key z) is) ∙ less) ys up.0, up.1)
      by_cases Greater is later =
          let below : cmp (key x) (key y) ≡ Less = rw (o.antisymm (key x) (key y), is) refl in
          ((below, all_weaker _ _ (λ z less. o.trans (key x) (key y) (key z) below less) ys up.0), up)

module _ {T K : Type 0} (key : T → K) {cmp : K → K → Ordering} (o : IsTotalOrder cmp) (k : K) (x : T) where
  greater_from : (a b : K) → cmp a b ≡ Less → cmp b a ≡ Greater
  greater_from a b less = o.antisymm b a ∙ ap ordering_reverse less

  less_from : (a b : K) → cmp a b ≡ Greater → cmp b a ≡ Less
  less_from a b greater = o.antisymm b a ∙ ap ordering_reverse greater

  -- the item itself at its key, and at every other key what stood there
  pub found_put : (xs : List T) → found (λ y. cmp (key y) k) (put (λ y. cmp (key y) (key x)) x xs) ≡ (if is_eq (cmp (key x) k) then Some x else found (λ y. cmp (key y) k) xs)
  found_put [] = alone (cmp (key x) k)
    where
      alone : (r : Ordering) → match_ordering r None (Some x) None ≡ (if is_eq r then Some x else None)
      alone Less = refl
      alone Equal = refl
      alone Greater = refl
  found_put (y ∷ ys) = by_place (cmp (key y) (key x)) refl (found_put ys)
    where
      behind : cmp (key y) (key x) ≡ Less → (r : Ordering) → cmp (key y) k ≡ r
          → found (λ z. cmp (key z) k) (put (λ z. cmp (key z) (key x)) x ys) ≡ (if is_eq (cmp (key x) k) then Some x else found (λ z. cmp (key z) k) ys)
          → match_ordering r (found (λ z. cmp (key z) k) (put (λ z. cmp (key z) (key x)) x ys)) (Some y) None
          ≡ (if is_eq (cmp (key x) k) then Some x else match_ordering r (found (λ z. cmp (key z) k) ys) (Some y) None)
      behind less Less is rest = rest
      behind less Equal is rest =
          let after : cmp (key x) k ≡ Greater = greater_from k (key x) (sym (o.congr (key y) k (key x) is) ∙ less) in
          rw after refl
      behind less Greater is rest =
          let after : cmp (key x) k ≡ Greater = greater_from k (key x) (o.trans k (key y) (key x) (less_from (key y) k is) less) in
          rw after refl

      in_place : cmp (key y) (key x) ≡ Equal → (r : Ordering) → cmp (key x) k ≡ r
          → match_ordering r (found (λ z. cmp (key z) k) ys) (Some x) None
          ≡ (if is_eq r then Some x else match_ordering r (found (λ z. cmp (key z) k) ys) (Some y) None)
      in_place equal Less is = refl
      in_place equal Equal is = refl
      in_place equal Greater is = refl

      before : cmp (key y) (key x) ≡ Greater → (r : Ordering) → cmp (key x) k ≡ r
          → match_ordering r (found (λ z. cmp (key z) k) (y ∷ ys)) (Some x) None
          ≡ (if is_eq r then Some x else found (λ z. cmp (key z) k) (y ∷ ys))
      before greater Less is = refl
      before greater Equal is = refl
      before greater Greater is =
          let after : cmp (key y) k ≡ Greater = greater_from k (key y) (o.trans k (key x) (key y) (less_from (key x) k is) (less_from (key y) (key x) greater)) in
          rw after refl

      by_place : (r : Ordering) → cmp (key y) (key x) ≡ r
          → found (λ z. cmp (key z) k) (put (λ z. cmp (key z) (key x)) x ys) ≡ (if is_eq (cmp (key x) k) then Some x else found (λ z. cmp (key z) k) ys)
          → found (λ z. cmp (key z) k) (match_ordering r (y ∷ put (λ z. cmp (key z) (key x)) x ys) (x ∷ ys) (x ∷ y ∷ ys))
          ≡ (if is_eq (cmp (key x) k) then Some x else found (λ z. cmp (key z) k) (y ∷ ys))
      by_place Less is rest = behind is (cmp (key y) k) refl rest
      by_place Equal is rest = rw (o.congr (key y) (key x) k is) (in_place is (cmp (key x) k) refl)
      by_place Greater is rest = before is (cmp (key x) k) refl

-- one passes once x is put where x passes or one passed, if what x takes the place of passes as x does
pub list_any-put : {T : Type 0} (at : T → Ordering) (p : T → Bool) (x : T) (xs : List T) → AllByRecursion (λ y. at y ≡ Equal → p y ≡ p x) xs → list_any p (put at x xs) ≡ (p x || list_any p xs)
list_any-put at p x [] same = refl
list_any-put at p x (y ∷ ys) same = by_cases (at y) refl (list_any-put at p x ys same.1)
  where
    by_cases : (r : Ordering) → at y ≡ r → list_any p (put at x ys) ≡ (p x || list_any p ys) → list_any p (match_ordering r (y ∷ put at x ys) (x ∷ ys) (x ∷ y ∷ ys)) ≡ (p x || (p y || list_any p ys))
    by_cases Less is later = ap (λ b. p y || b) later ∙ or_swap (p y) (p x) (list_any p ys)
    by_cases Equal is later = or_twice (p x) (list_any p ys) ∙ ap (λ z. p x || (z || list_any p ys)) (sym (same.0 is))
    by_cases Greater is later = refl

-- ---- finds

some_is : {T : Type 0} (x y : T) → Some x ≡ Some y → x ≡ y
some_is x y e = cc

none_is_not : {T : Type 0} (x : T) → None ≡ Some x → ⊥
none_is_not x e = cc

-- what holds of all items holds of the one that is found
pub found_holds : {T : Type 0} (at : T → Ordering) (P : T → Type 0) (xs : List T) (x : T) → AllByRecursion P xs → found at xs ≡ Some x → P x
found_holds at P [] x h e = absurd (none_is_not x e)
found_holds at P (y ∷ ys) x h e = by_order (at y) e (found_holds at P ys x h.1)
  where
    by_order : (r : Ordering) → match_ordering r (found at ys) (Some y) None ≡ Some x → (found at ys ≡ Some x → P x) → P x
    by_order Less f rest = rest f
    by_order Equal f rest = let same : y ≡ x = cc in subst P same h.0
    by_order Greater f rest = absurd (none_is_not x f)

-- the item that is found stands at the key
pub found_at : {T : Type 0} (at : T → Ordering) (xs : List T) (x : T) → found at xs ≡ Some x → at x ≡ Equal
found_at at [] x e = cc
found_at at (y ∷ ys) x e = by_order (at y) refl e (found_at at ys x)
  where
    by_order : (r : Ordering) → at y ≡ r → match_ordering r (found at ys) (Some y) None ≡ Some x → (found at ys ≡ Some x → at x ≡ Equal) → at x ≡ Equal
    by_order Less is f rest = rest f
    by_order Equal is f rest = let same : y ≡ x = cc in cc
    by_order Greater is f rest = cc

module _ {T K : Type 0} (key : T → K) {cmp : K → K → Ordering} (o : IsTotalOrder cmp) where
  abbrev pub at_key : K → T → Ordering
  at_key k x = cmp (key x) k

  -- nothing stands at a key before all others
  pub none_before : (k : K) (xs : List T) → AllByRecursion (λ y. cmp k (key y) ≡ Less) xs → found (at_key k) xs ≡ None
  none_before k [] h = refl
  none_before k (y ∷ ys) h = rw (o.antisymm (key y) k, h.0) refl

  pub first_found : (x : T) (xs : List T) → found (at_key (key x)) (x ∷ xs) ≡ Some x
  first_found x xs = rw (tied_itself o (key x)) refl

  -- at a key that isn't after the first one nothing stands behind it
  pub none_behind : (k : K) (x : T) (xs : List T) (r : Ordering) → cmp (key x) k ≡ r → (r ≡ Less → ⊥) → AllByRecursion (λ z. cmp (key x) (key z) ≡ Less) xs → found (at_key k) xs ≡ None
  none_behind k x xs Less e not h = absurd (not refl)
  none_behind k x xs Equal e not h = none_before k xs (all_weaker _ _ (λ z less. sym (o.congr (key x) k (key z) e) ∙ less) xs h)
  none_behind k x xs Greater e not h =
      let less : cmp k (key x) ≡ Less = o.antisymm k (key x) ∙ ap ordering_reverse e in
      none_before k xs (all_weaker _ _ (λ z after. o.trans k (key x) (key z) less after) xs h)

-- ---- removals

-- what was found, where it passes
abbrev pub passed : {T : Type 0} → (T → Bool) → Option T → Option T
passed p None = None
passed p (Some x) = if p x then Some x else None

module _ {T K : Type 0} (key : T → K) {cmp : K → K → Ordering} (o : IsTotalOrder cmp) where
  -- what a test keeps of an ascending list ascends
  pub ascends_filter : (p : T → Bool) (xs : List T) → Ascends key cmp xs → Ascends key cmp (filter p xs)
  ascends_filter p [] up = tt
  ascends_filter p (x ∷ xs) up = by_test (p x) (ascends_filter p xs up.1)
    where
      by_test : (b : Bool) → Ascends key cmp (filter p xs) → Ascends key cmp (if b then x ∷ filter p xs else filter p xs)
      by_test true rest = (all_filter (λ z. cmp (key x) (key z) ≡ Less) p xs up.0, rest)
      by_test false rest = rest

  -- at each key what stood there, where the test keeps it
  pub found_filter : (p : T → Bool) (k : K) (xs : List T) → Ascends key cmp xs → found (λ y. cmp (key y) k) (filter p xs) ≡ passed p (found (λ y. cmp (key y) k) xs)
  found_filter p k [] up = refl
  found_filter p k (x ∷ xs) up = by_test (p x) refl (cmp (key x) k) refl (found_filter p k xs up.1)
    where
      at : T → Ordering
      at y = cmp (key y) k

      none : (r : Ordering) → cmp (key x) k ≡ r → (r ≡ Less → ⊥) → found at (filter p xs) ≡ None
      none r is not = none_behind key o k x (filter p xs) r is not (all_filter (λ z. cmp (key x) (key z) ≡ Less) p xs up.0)

      by_test : (b : Bool) → p x ≡ b → (r : Ordering) → cmp (key x) k ≡ r → found at (filter p xs) ≡ passed p (found at xs)
          → found at (if b then x ∷ filter p xs else filter p xs) ≡ passed p (match_ordering r (found at xs) (Some x) None)
      by_test true e Less is rest = rw is rest
      by_test true e Equal is rest = rw (is, e) refl
      by_test true e Greater is rest = rw is refl
      by_test false e Less is rest = rest
      by_test false e Equal is rest = rw e (none Equal is (λ q. cc))
      by_test false e Greater is rest = none Greater is (λ q. cc)

  -- a list that ascends does so once what stands at a key is removed
  pub ascends_without : (k : K) (xs : List T) → Ascends key cmp xs → Ascends key cmp (without (λ y. cmp (key y) k) xs)
  ascends_without k xs up = ascends_filter (λ y. not (is_eq (cmp (key y) k))) xs up

  -- nothing at the key itself, and at every other key what stood there
  pub found_without : (j k : K) (xs : List T) → Ascends key cmp xs → found (λ y. cmp (key y) k) (without (λ y. cmp (key y) j) xs) ≡ (if is_eq (cmp j k) then None else found (λ y. cmp (key y) k) xs)
  found_without j k xs up =
      found_filter (λ y. not (is_eq (cmp (key y) j))) k xs up ∙ kept (found (λ y. cmp (key y) k) xs) refl
    where
      back : (r : Ordering) → is_eq (ordering_reverse r) ≡ is_eq r
      back Less = refl
      back Equal = refl
      back Greater = refl

      turned : (b : Bool) (x : T) → (if not b then Some x else None) ≡ (if b then None else Some x)
      turned true x = refl
      turned false x = refl

      nothing : (b : Bool) → (let none : Option T = None in none) ≡ (if b then None else None)
      nothing true = refl
      nothing false = refl

      kept : (r : Option T) → found (λ y. cmp (key y) k) xs ≡ r → passed (λ y. not (is_eq (cmp (key y) j))) r ≡ (if is_eq (cmp j k) then None else r)
      kept None e = nothing (is_eq (cmp j k))
      kept (Some x) e =
          let here : cmp (key x) k ≡ Equal = found_at (λ y. cmp (key y) k) xs x e in
          let there : is_eq (cmp (key x) j) ≡ is_eq (cmp j k) = ap is_eq (o.congr (key x) k j here ∙ o.antisymm k j) ∙ back (cmp j k) in
          ap (λ b. if not b then Some x else None) there ∙ turned (is_eq (cmp j k)) x

  -- all that stands behind an item has another key than it
  others_behind : (k : K) (x : T) (xs : List T) → cmp (key x) k ≡ Equal → AllByRecursion (λ z. cmp (key x) (key z) ≡ Less) xs → AllByRecursion (λ z. not (is_eq (cmp (key z) k)) ≡ true) xs
  others_behind k x xs here behind =
      all_weaker _ _ (λ z less. ap (λ r. not (is_eq r)) (o.antisymm (key z) k ∙ ap ordering_reverse (sym (o.congr (key x) k (key z) here) ∙ less))) xs behind

  -- removing what stands at a place leaves the list without it
  pub without_at_place : (k : K) (xs : List T) (i : ℕ) → Ascends key cmp xs → i < length xs → HoldsAt (λ y. cmp (key y) k ≡ Equal) xs i → AllWithin (λ y. cmp (key y) k ≡ Less) xs 0 i → without (λ y. cmp (key y) k) xs ≡ remove xs i
  without_at_place k [] i up within here before = absurd (omega arith)
  without_at_place k (x ∷ xs) zero up within here before =
      rw (here x) (filter_all (λ z. not (is_eq (cmp (key z) k))) xs (others_behind k x xs (here x) up.0))
  without_at_place k (x ∷ xs) (suc i) up within here before =
      rw (before 0 x (omega arith) (omega arith)) (ap (λ ys. x ∷ ys) (without_at_place k xs i up.1 (omega arith) here (λ j e lo hi. before (suc j) e (omega arith) (omega arith))))

-- where there is a gap, nothing is removed
pub without_in_gap : {T : Type 0} (at : T → Ordering) (xs : List T) (i : ℕ) → i ≤ length xs → AllWithin (λ y. at y ≡ Less) xs 0 i → AllWithin (λ y. at y ≡ Greater) xs i (length xs) → without at xs ≡ xs
without_in_gap at [] i within before after = refl
without_in_gap at (x ∷ xs) zero within before after =
    rw (after 0 x (omega arith) (omega arith)) (ap (λ ys. x ∷ ys) (without_in_gap at xs zero (omega arith) (λ j e lo hi. absurd (omega arith)) (λ j e lo hi. after (suc j) e (omega arith) (omega arith))))
without_in_gap at (x ∷ xs) (suc i) within before after =
    rw (before 0 x (omega arith) (omega arith)) (ap (λ ys. x ∷ ys) (without_in_gap at xs i (omega arith) (λ j e lo hi. before (suc j) e (omega arith) (omega arith)) (λ j e lo hi. after (suc j) e (omega arith) (omega arith))))

-- ---- maps

module _ {T K : Type 0} (key : T → K) {cmp : K → K → Ordering} (o : IsTotalOrder cmp) where
  equal_tails : (x y : T) (xs ys : List T) → cmp (key x) (key y) ≡ Equal → Ascends key cmp (x ∷ xs) → Ascends key cmp (y ∷ ys)
      → (k : K) (r : Ordering) → cmp (key x) k ≡ r → found (at_key key o k) (x ∷ xs) ≡ found (at_key key o k) (y ∷ ys) → found (at_key key o k) xs ≡ found (at_key key o k) ys
  equal_tails x y xs ys e up vp k Less is f =
      let is_y : cmp (key y) k ≡ Less = sym (o.congr (key x) (key y) k e) ∙ is in
      rw (is, is_y) at f
  equal_tails x y xs ys e up vp k Equal is f =
      none_behind key o k x xs Equal is (λ q. cc) up.0 ∙ sym (none_behind key o k y ys Equal (sym (o.congr (key x) (key y) k e) ∙ is) (λ q. cc) vp.0)
  equal_tails x y xs ys e up vp k Greater is f =
      none_behind key o k x xs Greater is (λ q. cc) up.0 ∙ sym (none_behind key o k y ys Greater (sym (o.congr (key x) (key y) k e) ∙ is) (λ q. cc) vp.0)

  -- two ascending lists are one where they answer alike at each key
  pub equal_maps : (xs ys : List T) → Ascends key cmp xs → Ascends key cmp ys → ((k : K) → found (λ y. cmp (key y) k) xs ≡ found (λ y. cmp (key y) k) ys) → xs ≡ ys
  equal_maps [] [] up vp f = refl
  equal_maps [] (y ∷ ys) up vp f = absurd (none_is_not y (f (key y) ∙ first_found key o y ys))
  equal_maps (x ∷ xs) [] up vp f = absurd (none_is_not x (sym (f (key x)) ∙ first_found key o x xs))
  equal_maps (x ∷ xs) (y ∷ ys) up vp f =
      by_order (cmp (key x) (key y)) refl (λ e. equal_maps xs ys up.1 vp.1 (λ k. equal_tails x y xs ys e up vp k (cmp (key x) k) refl (f k)))
    where
      by_order : (r : Ordering) → cmp (key x) (key y) ≡ r → (cmp (key x) (key y) ≡ Equal → xs ≡ ys) → (x ∷ xs) ≡ (y ∷ ys)
      by_order Less is same =
          let after : cmp (key y) (key x) ≡ Greater = o.antisymm (key y) (key x) ∙ ap ordering_reverse is in
          let none : found (at_key key o (key x)) (y ∷ ys) ≡ None = rw after refl in
          absurd (none_is_not x (sym none ∙ (sym (f (key x)) ∙ first_found key o x xs)))
      by_order Equal is same =
          let there : found (at_key key o (key x)) (y ∷ ys) ≡ Some y = rw (tied_back o (key x) (key y) is) refl in
          let one : x ≡ y = some_is x y (sym (first_found key o x xs) ∙ (f (key x) ∙ there)) in
          let rest = same is in
          cc
      by_order Greater is same =
          let none : found (at_key key o (key y)) (x ∷ xs) ≡ None = rw is refl in
          absurd (none_is_not y (sym none ∙ (f (key y) ∙ first_found key o y ys)))

-- ---- sorted lists

module _ {T K : Type 0} (key : T → K) {cmp : K → K → Ordering} (o : IsTotalOrder cmp) where
  pub ascends_sorted : (xs : List T) → Ascends key cmp (sorted_by key cmp xs)
  ascends_sorted [] = tt
  ascends_sorted (x ∷ xs) = ascends_put key o x (sorted_by key cmp xs) (ascends_sorted xs)

-- what holds of all holds of all once they are sorted
pub all_sorted : {T K : Type 0} (key : T → K) (cmp : K → K → Ordering) (P : T → Type 0) (xs : List T) → AllByRecursion P xs → AllByRecursion P (sorted_by key cmp xs)
all_sorted key cmp P [] all = tt
all_sorted key cmp P (x ∷ xs) all = all_put (λ y. cmp (key y) (key x)) P x (sorted_by key cmp xs) all.0 (all_sorted key cmp P xs all.1)
