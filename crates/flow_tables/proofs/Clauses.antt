-- Clauses in ascending order.
use Rattle.std.proofs.Common.{◌≡◌, ℕ, suc, ◌+◌, ◌<◌, ◌≤◌, ◌⊎◌, inl, inr, Bool, true, false, List, [], ◌∷◌, length, get_or, Option, Some, None, Result, Ok, Err, IfOk, IfErr, refl, sym, ap, subst, ◌∙◌, arith, add-one, eqb}
use Rattle.std.specs.List.{AllByRecursion, AllAdjacentBelow, IsAllAdjacentAnswer, list_any, slice_get}
use Rattle.std.specs.Option.{option_map_or}
use Rattle.std.specs.Cmp.{IsTotalOrder, both_tied}
use Rattle.std.specs.Ordering.{nat_cmp, is_eq, is_lt, ordering_reverse}
use Rattle.std.specs.Result.{is_ok}
use Rattle.std.specs.declared.cmp.Ordering.{Ordering}
use Rattle.std.specs.declared.cmp.Ordering.TheVariants.{Less, Equal, Greater}
use Rattle.std.proofs.lemmas.Bool.{cases_lt, lt-ltb}
use Rattle.std.proofs.lemmas.Bool.Decides.{nat_tests}
use Rattle.std.proofs.lemmas.Cmp.{on_total, then_total, nat_cmp_total}
use Rattle.std.proofs.lemmas.List.Folds.{list_any_at, list_any_none}
use Rattle.std.proofs.lemmas.Option.{slice_get-get_or, slice_get_within, get_or_from_slice_get}
use Rattle.cl_types.specs.SearchLaws.{ascends_between}
use Rattle.cl_types.specs.Ascending.{Ascends, IsPlace, IsGap}
use Rattle.flow_entries.specs.declared.flow.Clause.{Clause}
use Rattle.flow_tables.specs.Index.{clause_order}
use Rattle.flow_tables.specs.Lookup.{is_clause}
use Rattle.flow_tables.specs.Search.{IsPast, IsMet, is_before}

module _ {T : Type 0} {cmp : T → T → Ordering} (o : IsTotalOrder cmp) where
  lifted : (x y : T) → cmp x y ≡ Less → (zs : List T) → AllByRecursion (λ z. cmp y z ≡ Less) zs → AllByRecursion (λ z. cmp x z ≡ Less) zs
  lifted x y less [] up = tt
  lifted x y less (z ∷ zs) up = (o.trans x y z less up.0, lifted x y less zs up.1)

  -- where each item is less than the next, the list ascends
  ascends_adjacent : (xs : List T) → AllAdjacentBelow (λ x y. cmp x y ≡ Less) xs (length xs) → Ascends (λ x. x) cmp xs
  ascends_adjacent [] steps = tt
  ascends_adjacent (x ∷ []) steps = (tt, tt)
  ascends_adjacent (x ∷ y ∷ ys) steps =
      let less : cmp x y ≡ Less = steps 0 x (omega arith) in
      let rest = ascends_adjacent (y ∷ ys) (λ k d lt.
      let step = steps (suc k) d (omega (arith, lt)) in
      rw add-one (rw add-one at step)) in
      ((less, lifted x y less ys rest.0), rest)

  less_of : (r : Ordering) → true ≡ is_lt r → r ≡ Less
  less_of Less h = refl
  less_of Equal h = cc
  less_of Greater h = cc

  pub ascends_tested : (xs : List T) → IsAllAdjacentAnswer (λ x y b. b ≡ is_lt (cmp x y)) xs true → Ascends (λ x. x) cmp xs
  ascends_tested xs steps = ascends_adjacent xs (λ k d lt. less_of _ (steps k d lt))

pub clause_order_total : IsTotalOrder clause_order
clause_order_total = then_total (on_total (λ (c : Clause). c.id) nat_cmp_total) (on_total (λ (c : Clause). c.k) nat_cmp_total)

nat_same : (m n : ℕ) → eqb m n ≡ is_eq (nat_cmp m n)
nat_same m n = grind (arith, nat_tests)

is_clause-same : (q c : Clause) → is_clause q.id q.k c ≡ is_eq (clause_order c q)
is_clause-same q c = both_tied (eqb c.id q.id) (eqb c.k q.k) (nat_cmp c.id q.id) (nat_cmp c.k q.k) (nat_same c.id q.id) (nat_same c.k q.k)

-- a clause that a search finds is among the clauses, and one that it doesn't find isn't
pub searched_any : (q : Clause) (cs : List Clause) (r : Result ℕ ℕ) → IfOk r (IsPlace (λ c. clause_order c q) cs) → IfErr r (IsGap (λ c. clause_order c q) cs) → is_ok r ≡ list_any (is_clause q.id q.k) cs
searched_any q cs (Ok i) place gap = sym (list_any_at (is_clause q.id q.k) cs i q place.within (is_clause-same q (get_or cs i q) ∙ ap is_eq (place.here q)))
searched_any q cs (Err i) place gap = sym (list_any_none (is_clause q.id q.k) cs (λ k d within. is_clause-same q (get_or cs k d) ∙ aside k d within (cases_lt k i)))
  where
    aside : (k : ℕ) (d : Clause) → k < length cs → (k < i) ⊎ (i ≤ k) → is_eq (clause_order (get_or cs k d) q) ≡ false
    aside k d within (inl lt) = ap is_eq (gap.before k d (omega arith) lt)
    aside k d within (inr ge) = ap is_eq (gap.after k d ge within)

-- ---- two lists side by side

abbrev clause : ℕ → ℕ → Clause
clause id k = record { id = id; k = k }

-- what is before an id is before those that are no less
pub past_on : (i j k : ℕ) (cs : List Clause) (at : ℕ) → i ≤ j → IsPast i k cs at → IsPast j k cs at
past_on i j k cs at le past n d low high = by_test (past n d low high) (cases_lt i j)
  where
    by_test : clause_order (get_or cs n d) (clause i k) ≡ Less → (i < j) ⊎ (j ≤ i) → clause_order (get_or cs n d) (clause j k) ≡ Less
    by_test less (inl lt) =
        let up : clause_order (clause i k) (clause j k) ≡ Less = rw (lt-ltb i j lt) refl in
        clause_order_total.trans (get_or cs n d) (clause i k) (clause j k) less up
    by_test less (inr ge) =
        let same : i ≡ j = omega arith in
        subst (λ m. clause_order (get_or cs n d) (clause m k) ≡ Less) same less

-- ids don't fall
one_rises : (cs : List Clause) (i : ℕ) (d : Clause) → Ascends (λ c. c) clause_order cs → i + 1 < length cs → (get_or cs i d).id ≤ (get_or cs (i + 1) d).id
one_rises cs i d up within = by_test (ascends_between (λ c. c) clause_order cs i (i + 1) d up (omega arith) within) (cases_lt (get_or cs (i + 1) d).id (get_or cs i d).id)
  where
    apart : (r s : Ordering) → r ≡ Less → s ≡ Less → r ≡ ordering_reverse s → ⊥
    apart r s e f g = cc

    by_test : clause_order (get_or cs i d) (get_or cs (i + 1) d) ≡ Less → ((get_or cs (i + 1) d).id < (get_or cs i d).id) ⊎ ((get_or cs i d).id ≤ (get_or cs (i + 1) d).id) → (get_or cs i d).id ≤ (get_or cs (i + 1) d).id
    by_test less (inr le) = le
    by_test less (inl lt) =
        let down : clause_order (get_or cs (i + 1) d) (get_or cs i d) ≡ Less = rw (lt-ltb (get_or cs (i + 1) d).id (get_or cs i d).id lt) refl in
        let turned = clause_order_total.antisymm (get_or cs i d) (get_or cs (i + 1) d) in
        absurd (apart (clause_order (get_or cs i d) (get_or cs (i + 1) d)) (clause_order (get_or cs (i + 1) d) (get_or cs i d)) less down turned)

pub ids_rise : (cs : List Clause) (i : ℕ) (d e : Clause) → Ascends (λ c. c) clause_order cs → i + 1 < length cs → (get_or cs i d).id ≤ (get_or cs (i + 1) e).id
ids_rise cs i d e up within =
    subst (λ c. (get_or cs i d).id ≤ c.id) (sym (get_or_from_slice_get cs (i + 1) (get_or cs (i + 1) d) e (slice_get-get_or cs (i + 1) d within))) (one_rises cs i d up within)

less_from : (r : Ordering) → is_lt r ≡ true → r ≡ Less
less_from Less h = refl
less_from Equal h = cc
less_from Greater h = cc

module _ (id k : ℕ) (cs : List Clause) (at : ℕ) where
  lower : Option Clause → Bool
  lower o = option_map_or (λ c. is_lt (clause_order c (clause id k))) o false

  -- a clause before what is sought is another
  pub before_apart : is_before id k cs at ≡ true → option_map_or (is_clause id k) (slice_get cs at) false ≡ false
  unfolding lower
  before_apart h = by_place (slice_get cs at) h
    where
      by_place : (o : Option Clause) → lower o ≡ true → option_map_or (is_clause id k) o false ≡ false
      by_place None h = cc
      by_place (Some c) h = is_clause-same (clause id k) c ∙ ap is_eq (less_from (clause_order c (clause id k)) h)

  -- what stands at the place is before what is sought, as all before it
  pub past_one : IsPast id k cs at → is_before id k cs at ≡ true → IsPast id k cs (at + 1)
  unfolding lower
  past_one past h = λ n d low high. by_place_of n d low high (cases_lt n at)
    where
      none : {T : Type 0} → false ≡ true → T
      none h = cc

      here : (o : Option Clause) → slice_get cs at ≡ o → lower o ≡ true → (d : Clause) → clause_order (get_or cs at d) (clause id k) ≡ Less
      here None is h d = none h
      here (Some c) is h d = subst (λ e. clause_order e (clause id k) ≡ Less) (sym (get_or_from_slice_get cs at c d is)) (less_from (clause_order c (clause id k)) h)

      by_place_of : (n : ℕ) (d : Clause) → 0 ≤ n → n < at + 1 → (n < at) ⊎ (at ≤ n) → clause_order (get_or cs n d) (clause id k) ≡ Less
      by_place_of n d low high (inl lt) = past n d low lt
      by_place_of n d low high (inr ge) =
          let same : at ≡ n = omega arith in
          subst (λ m. clause_order (get_or cs m d) (clause id k) ≡ Less) same (here (slice_get cs at) refl h d)

  -- where nothing before what is sought stands at the place, it is met there
  pub met_here : IsPast id k cs at → is_before id k cs at ≡ false → IsMet id k cs at
  unfolding lower
  met_here past h = record { past = past; here = λ c is. ap lower (sym is) ∙ h }

-- a clause is there exactly where it stands at the first place where it can
pub met_any : (id k : ℕ) (cs : List Clause) (at : ℕ) → Ascends (λ c. c) clause_order cs → IsMet id k cs at → list_any (is_clause id k) cs ≡ option_map_or (is_clause id k) (slice_get cs at) false
met_any id k cs at up met = by_place (slice_get cs at) refl
  where
    q : Clause
    q = clause id k

    other : (r : Ordering) (c : Clause) → clause_order c q ≡ r → is_eq r ≡ false → is_clause id k c ≡ false
    other r c is off = is_clause-same q c ∙ ap is_eq is ∙ off

    before : (n : ℕ) (d : Clause) → n < at → is_clause id k (get_or cs n d) ≡ false
    before n d lt = other Less (get_or cs n d) (met.past n d (omega arith) lt) refl

    none : length cs ≤ at → list_any (is_clause id k) cs ≡ false
    none le = list_any_none (is_clause id k) cs (λ n d within. before n d (omega arith))

    after : (c : Clause) → clause_order c q ≡ Greater → (n : ℕ) (d : Clause) → at < n → n < length cs → get_or cs at d ≡ c → is_clause id k (get_or cs n d) ≡ false
    after c gt n d lt within is =
        let up_c : clause_order c (get_or cs n d) ≡ Less = subst (λ e. clause_order e (get_or cs n d) ≡ Less) is (ascends_between (λ c. c) clause_order cs at n d up lt within) in
        let q_c : clause_order q c ≡ Less = clause_order_total.antisymm q c ∙ ap ordering_reverse gt in
        let q_n : clause_order q (get_or cs n d) ≡ Less = clause_order_total.trans q c (get_or cs n d) q_c up_c in
        other Greater (get_or cs n d) (clause_order_total.antisymm (get_or cs n d) q ∙ ap ordering_reverse q_n) refl

    by_order : (c : Clause) → slice_get cs at ≡ Some c → (r : Ordering) → clause_order c q ≡ r → is_lt r ≡ false → list_any (is_clause id k) cs ≡ is_clause id k c
    by_order c is Less o off = cc
    by_order c is Equal o off =
        let within = slice_get_within cs at c is in
        let here : is_clause id k c ≡ true = is_clause-same q c ∙ ap is_eq o in
        list_any_at (is_clause id k) cs at c within (subst (λ e. is_clause id k e ≡ true) (sym (get_or_from_slice_get cs at c c is)) here) ∙ sym here
    by_order c is Greater o off =
        let here : is_clause id k c ≡ false = other Greater c o refl in
        list_any_none (is_clause id k) cs (λ n d within. by_place_of n d within (cases_lt n at)) ∙ sym here
      where
        by_place_of : (n : ℕ) (d : Clause) → n < length cs → (n < at) ⊎ (at ≤ n) → is_clause id k (get_or cs n d) ≡ false
        by_place_of n d within (inl lt) = before n d lt
        by_place_of n d within (inr ge) = at_or_after n d within ge (cases_lt at n)
          where
            at_or_after : (n : ℕ) (d : Clause) → n < length cs → at ≤ n → (at < n) ⊎ (n ≤ at) → is_clause id k (get_or cs n d) ≡ false
            at_or_after n d within ge (inl lt) = after c o n d lt within (get_or_from_slice_get cs at c d is)
            at_or_after n d within ge (inr le) =
                let same : at ≡ n = omega arith in
                subst (λ e. is_clause id k e ≡ false) (sym (get_or_from_slice_get cs at c d is) ∙ ap (λ m. get_or cs m d) same) (other Greater c o refl)

    by_place : (o : Option Clause) → slice_get cs at ≡ o → list_any (is_clause id k) cs ≡ option_map_or (is_clause id k) o false
    by_place None is = none (past_end is (cases_lt at (length cs)))
      where
        past_end : slice_get cs at ≡ None → (at < length cs) ⊎ (length cs ≤ at) → length cs ≤ at
        past_end is (inr le) = le
        past_end is (inl lt) = let there = slice_get-get_or cs at (clause 0 0) lt in cc
    by_place (Some c) is = by_order c is (clause_order c q) refl (met.here c is)
