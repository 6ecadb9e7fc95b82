-- The set of a list: what it keeps of the list, and that it is one list whatever the order before.
use Rattle.std.proofs.Common.{◌≡◌, List, [], ◌∷◌, Bool, true, false, not, cond, ◌||◌, refl, sym, ap, ◌∙◌}
use Rattle.std.proofs.lemmas.Bool.{true≢false}
use Rattle.std.specs.List.{AllByRecursion, list_any, list_all, dedup}
use Rattle.std.specs.List.Sorted.{IsPermutation, IsSorted, IsStrictlySortedBy}
use Rattle.std.specs.declared.cmp.Ordering.{Ordering}
use Rattle.std.specs.declared.cmp.Ordering.TheVariants.{Less, Equal, Greater}
use Rattle.std.specs.Cmp.{IsTotalOrder}
use Rattle.std.specs.Ordering.{eq_by_cmp, is_eq}
use Rattle.std.specs.FinMap.{IsAntisymmetric}
use Rattle.std.proofs.lemmas.Cmp.{tied_itself}
use Rattle.std.proofs.lemmas.List.Kept.{IsStrictlySortedBy-dedup}
use Rattle.std.proofs.lemmas.List.Sorted.{list_any-IsPermutation}
use Rattle.cl_types.specs.Ascending.{Ascends, put, sorted_set}
use Rattle.cl_types.specs.AscendingLaws.{list_any-put, ascends_sorted}
use Rattle.cl_types.specs.ListLaws.{all_each, or_twice, list_all-none_fails}

module _ {T : Type 0} {cmp : T → T → Ordering} (exact : IsAntisymmetric cmp) (p : T → Bool) where
  -- one passes once x is put where x passes or one passed
  any_put : (x : T) (xs : List T) → list_any p (put (λ y. cmp y x) x xs) ≡ (p x || list_any p xs)
  any_put x xs = list_any-put (λ y. cmp y x) p x xs (all_each _ (λ y is. ap p (exact y x is)) xs)

  -- sorting once changes nothing of what one passes
  pub list_any-sorted_set : (xs : List T) → list_any p (sorted_set cmp xs) ≡ list_any p xs
  list_any-sorted_set [] = refl
  list_any-sorted_set (x ∷ xs) = any_put x (sorted_set cmp xs) ∙ ap (λ b. p x || b) (list_any-sorted_set xs)

  list_any-dedup_from : (E : T → T → Bool) → ((x y : T) → E x y ≡ eq_by_cmp cmp x y) → (k : T) (xs : List T) → list_any p (dedup E (k ∷ xs)) ≡ (p k || list_any p xs)
  list_any-dedup_from E ties k [] = refl
  list_any-dedup_from E ties k (x ∷ xs) = by_cases (E x k) refl (list_any-dedup_from E ties k xs) (list_any-dedup_from E ties x xs)
    where
      by_cases : (b : Bool) → E x k ≡ b → list_any p (dedup E (k ∷ xs)) ≡ (p k || list_any p xs) → list_any p (dedup E (x ∷ xs)) ≡ (p x || list_any p xs) → list_any p (cond b (dedup E (k ∷ xs)) (k ∷ dedup E (x ∷ xs))) ≡ (p k || (p x || list_any p xs))
      by_cases true is with_k with_x =
          with_k ∙ or_twice (p k) (list_any p xs) ∙ ap (λ z. p k || (p z || list_any p xs)) (sym (exact x k (tied (cmp x k) (sym (ties x k) ∙ is))))
        where
          tied : (r : Ordering) → is_eq r ≡ true → r ≡ Equal
          tied Less e = cc
          tied Equal e = refl
          tied Greater e = cc
      by_cases false is with_k with_x = ap (λ b. p k || b) with_x

  list_any-dedup : (E : T → T → Bool) → ((x y : T) → E x y ≡ eq_by_cmp cmp x y) → (xs : List T) → list_any p (dedup E xs) ≡ list_any p xs
  list_any-dedup E ties [] = refl
  list_any-dedup E ties (x ∷ xs) = list_any-dedup_from E ties x xs

-- nor of what all pass
pub list_all-sorted_set : {T : Type 0} {cmp : T → T → Ordering} (exact : IsAntisymmetric cmp) (p : T → Bool) (xs : List T) → list_all p (sorted_set cmp xs) ≡ list_all p xs
list_all-sorted_set {cmp = cmp} exact p xs =
    list_all-none_fails p (sorted_set cmp xs)
    ∙ ap not (list_any-sorted_set exact (λ x. not (p x)) xs)
    ∙ sym (list_all-none_fails p xs)

module _ {T : Type 0} {cmp : T → T → Ordering} (o : IsTotalOrder cmp) where
  -- x stands before all of the list
  abbrev IsBefore : T → List T → Type 0
  IsBefore x xs = AllByRecursion (λ y. cmp x y ≡ Less) xs

  before_none : (x : T) (xs : List T) → IsBefore x xs → list_any (eq_by_cmp cmp x) xs ≡ false
  before_none x [] before = refl
  before_none x (y ∷ ys) before = ap (λ r. is_eq r || list_any (eq_by_cmp cmp x) ys) before.0 ∙ before_none x ys before.1

  before_further : (x y : T) (ys : List T) → cmp x y ≡ Less → IsBefore y ys → IsBefore x ys
  before_further x y [] less before = tt
  before_further x y (z ∷ zs) less before = (o.trans x y z less before.0, before_further x y zs less before.1)

  found_first : (x : T) (xs : List T) → list_any (eq_by_cmp cmp x) (x ∷ xs) ≡ true
  found_first x xs = ap (λ r. is_eq r || list_any (eq_by_cmp cmp x) xs) (tied_itself o x)

  -- x stands before all of one list, and is in the other
  apart : (x : T) (xs ys : List T) → IsBefore x ys → list_any (eq_by_cmp cmp x) (x ∷ xs) ≡ list_any (eq_by_cmp cmp x) ys → true ≡ false
  apart x xs ys before same = sym (found_first x xs) ∙ same ∙ before_none x ys before

module _ {T : Type 0} {cmp : T → T → Ordering} (o : IsTotalOrder cmp) (exact : IsAntisymmetric cmp) where
  -- what is in two ascending lists with one first element is in what follows it
  tails_same : (x : T) (xs ys : List T) → IsBefore o x xs → IsBefore o x ys → ((z : T) → list_any (eq_by_cmp cmp z) (x ∷ xs) ≡ list_any (eq_by_cmp cmp z) (x ∷ ys)) → (z : T) → list_any (eq_by_cmp cmp z) xs ≡ list_any (eq_by_cmp cmp z) ys
  tails_same x xs ys up down same z = by_cases (cmp z x) refl (same z)
    where
      by_cases : (r : Ordering) → cmp z x ≡ r → (is_eq (cmp z x) || list_any (eq_by_cmp cmp z) xs) ≡ (is_eq (cmp z x) || list_any (eq_by_cmp cmp z) ys) → list_any (eq_by_cmp cmp z) xs ≡ list_any (eq_by_cmp cmp z) ys
      by_cases Less e f = rw e at f
      by_cases Equal e f = rw (exact z x e) (before_none o x xs up ∙ sym (before_none o x ys down))
      by_cases Greater e f = rw e at f

  same_absurd : {P : Type 0} → true ≡ false → P
  same_absurd e = absurd (true≢false e)

  -- two ascending lists with the same elements are one
  pub ascending_same : (xs ys : List T) → Ascends (λ x. x) cmp xs → Ascends (λ x. x) cmp ys → ((x : T) → list_any (eq_by_cmp cmp x) xs ≡ list_any (eq_by_cmp cmp x) ys) → xs ≡ ys
  ascending_same [] [] up down same = refl
  ascending_same [] (y ∷ ys) up down same = same_absurd (apart o y ys [] tt (sym (same y)))
  ascending_same (x ∷ xs) [] up down same = same_absurd (apart o x xs [] tt (same x))
  ascending_same (x ∷ xs) (y ∷ ys) up down same = by_cases (cmp x y) refl (ascending_same xs ys up.1 down.1)
    where
      by_cases : (r : Ordering) → cmp x y ≡ r → (((z : T) → list_any (eq_by_cmp cmp z) xs ≡ list_any (eq_by_cmp cmp z) ys) → xs ≡ ys) → x ∷ xs ≡ y ∷ ys
      by_cases Less less rest = same_absurd (apart o x xs (y ∷ ys) (less, before_further o x y ys less down.0) (same x))
      by_cases Equal tied rest =
          let is = exact x y tied in
          let after = rest (tails_same x xs ys up.0 (rw is down.0) (λ z. rw (← is) at (same z))) in cc
      by_cases Greater greater rest =
          let less : cmp y x ≡ Less = rw (o.antisymm y x, greater) refl in
          same_absurd (apart o y ys (x ∷ xs) (less, before_further o y x xs less up.0) (sym (same y)))

  ascends_strictly : (xs : List T) → IsStrictlySortedBy cmp xs → Ascends (λ x. x) cmp xs
  unfolding IsStrictlySortedBy
  ascends_strictly [] up = tt
  ascends_strictly (x ∷ xs) up = (up.0, ascends_strictly xs up.1)

  -- so a sort and a `dedup` leave the sorted set, whatever the order before
  pub dedup_sorted : (E : T → T → Bool) → ((x y : T) → E x y ≡ eq_by_cmp cmp x y) → (xs ys : List T) → IsPermutation xs ys → IsSorted cmp ys → dedup E ys ≡ sorted_set cmp xs
  dedup_sorted E ties xs ys moved sorted =
      ascending_same (dedup E ys) (sorted_set cmp xs) (ascends_strictly (dedup E ys) (IsStrictlySortedBy-dedup o ties ys sorted)) (ascends_sorted (λ x. x) o xs)
      (λ x. list_any-dedup exact (eq_by_cmp cmp x) E ties ys ∙ sym (list_any-IsPermutation (eq_by_cmp cmp x) xs ys moved) ∙ sym (list_any-sorted_set exact (eq_by_cmp cmp x) xs))

  -- the sorted set doesn't look at the order before
  pub sorted_set-permutation : (xs ys : List T) → IsPermutation xs ys → sorted_set cmp ys ≡ sorted_set cmp xs
  sorted_set-permutation xs ys moved =
      ascending_same (sorted_set cmp ys) (sorted_set cmp xs) (ascends_sorted (λ x. x) o ys) (ascends_sorted (λ x. x) o xs)
      (λ x. list_any-sorted_set exact (eq_by_cmp cmp x) ys ∙ sym (list_any-IsPermutation (eq_by_cmp cmp x) xs ys moved) ∙ sym (list_any-sorted_set exact (eq_by_cmp cmp x) xs))
