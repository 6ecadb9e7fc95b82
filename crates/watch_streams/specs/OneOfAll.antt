-- What holds of all elements of a list, and what one of them passes.
use Rattle.std.proofs.Common.{◌≡◌, List, [], ◌∷◌, ◌++◌, map, filter, flat_map, cond, Bool, true, false, ◌||◌, ◌&&◌, Some, find, refl, sym, ap, ◌∙◌}
use Rattle.std.specs.List.{AllByRecursion, list_any, list_all}
use Rattle.std.proofs.lemmas.List.{map-append}
use Rattle.std.proofs.lemmas.List.Folds.{list_any-append}
use Rattle.cl_types.specs.ListLaws.{or_swap}

-- ---- what holds of all

-- what holds of everything holds of all
pub all_of : {T : Type 0} (P : T → Type 0) → ((x : T) → P x) → (xs : List T) → AllByRecursion P xs
all_of P f [] = tt
all_of P f (x ∷ xs) = (f x, all_of P f xs)

pub all_of_both : {T : Type 0} (P Q R : T → Type 0) → ((x : T) → P x → Q x → R x) → (xs : List T) → AllByRecursion P xs → AllByRecursion Q xs → AllByRecursion R xs
all_of_both P Q R f [] ps qs = tt
all_of_both P Q R f (x ∷ xs) ps qs = (f x ps.0 qs.0, all_of_both P Q R f xs ps.1 qs.1)

pub all_map : {A B : Type 0} (P : B → Type 0) (f : A → B) (xs : List A) → AllByRecursion (λ x. P (f x)) xs → AllByRecursion P (map f xs)
all_map P f [] all = tt
all_map P f (x ∷ xs) all = (all.0, all_map P f xs all.1)

module _ {T : Type 0} (P : T → Type 0) where
  pub all_append : (xs ys : List T) → AllByRecursion P xs → AllByRecursion P ys → AllByRecursion P (xs ++ ys)
  all_append [] ys front back = back
  all_append (x ∷ xs) ys front back = (front.0, all_append xs ys front.1 back)

  pub all_front : (xs ys : List T) → AllByRecursion P (xs ++ ys) → AllByRecursion P xs
  all_front [] ys all = tt
  all_front (x ∷ xs) ys all = (all.0, all_front xs ys all.1)

  pub all_back : (xs ys : List T) → AllByRecursion P (xs ++ ys) → AllByRecursion P ys
  all_back [] ys all = all
  all_back (x ∷ xs) ys all = all_back xs ys all.1

  pub all_flat_map : {A : Type 0} (f : A → List T) (xs : List A) → AllByRecursion (λ x. AllByRecursion P (f x)) xs → AllByRecursion P (flat_map f xs)
  all_flat_map f [] all = tt
  all_flat_map f (x ∷ xs) all = all_append (f x) (flat_map f xs) all.0 (all_flat_map f xs all.1)

  pub all_parts : {A : Type 0} (f : A → List T) (xs : List A) → AllByRecursion P (flat_map f xs) → AllByRecursion (λ x. AllByRecursion P (f x)) xs
  all_parts f [] all = tt
  all_parts f (x ∷ xs) all = (all_front (f x) (flat_map f xs) all, all_parts f xs (all_back (f x) (flat_map f xs) all))

  -- what holds of all parts of those that are kept
  pub all_kept : {A : Type 0} (f : A → List T) (k : A → Bool) (xs : List A) → AllByRecursion P (flat_map f (filter k xs)) → AllByRecursion (λ x. k x ≡ true → AllByRecursion P (f x)) xs
  all_kept f k [] all = tt
  all_kept {A = A} f k (x ∷ xs) all = by_cases (k x) refl (all_kept f k xs) all
    where
      Kept : List A → Type 0
      Kept ys = AllByRecursion (λ y. k y ≡ true → AllByRecursion P (f y)) ys

      by_cases : (b : Bool) → k x ≡ b → (AllByRecursion P (flat_map f (filter k xs)) → Kept xs) → AllByRecursion P (flat_map f (cond b (x ∷ filter k xs) (filter k xs))) → Kept (x ∷ xs)
      by_cases true is rest all = (λ h. all_front (f x) (flat_map f (filter k xs)) all, rest (all_back (f x) (flat_map f (filter k xs)) all))
      by_cases false is rest all = (λ h. absurd (differ (sym is ∙ h)), rest all)
        where
          differ : false ≡ true → ⊥
          differ e = cc

-- ---- what one passes

or_assoc : (a b c : Bool) → ((a || b) || c) ≡ (a || (b || c))
or_assoc true b c = refl
or_assoc false b c = refl

pub or_false : (a : Bool) → (a || false) ≡ a
or_false true = refl
or_false false = refl

pub and_false : (a : Bool) → (a && false) ≡ false
and_false true = refl
and_false false = refl

pub and_true : (a : Bool) → (a && true) ≡ a
and_true true = refl
and_true false = refl

pub and_assoc : (a b c : Bool) → ((a && b) && c) ≡ (a && (b && c))
and_assoc true b c = refl
and_assoc false b c = refl

module _ {T : Type 0} where
  pub list_any-all : (p q : T → Bool) (xs : List T) → AllByRecursion (λ x. p x ≡ q x) xs → list_any p xs ≡ list_any q xs
  list_any-all p q [] all = refl
  list_any-all p q (x ∷ xs) all = ap (λ b. b || list_any p xs) all.0 ∙ ap (λ b. q x || b) (list_any-all p q xs all.1)

  pub list_any-each : (p q : T → Bool) → ((x : T) → p x ≡ q x) → (xs : List T) → list_any p xs ≡ list_any q xs
  list_any-each p q f xs = ap (λ (r : T → Bool). list_any r xs) (λ i x. f x i)

  pub list_any-none : (xs : List T) → list_any (λ x. false) xs ≡ false
  list_any-none [] = refl
  list_any-none (x ∷ xs) = list_any-none xs

  pub list_any-and : (p : T → Bool) (b : Bool) (xs : List T) → list_any (λ x. p x && b) xs ≡ (list_any p xs && b)
  list_any-and p true xs = list_any-each (λ x. p x && true) p (λ x. and_true (p x)) xs ∙ sym (and_true (list_any p xs))
  list_any-and p false xs = list_any-each (λ x. p x && false) (λ x. false) (λ x. and_false (p x)) xs ∙ list_any-none xs ∙ sym (and_false (list_any p xs))

  pub list_any-or : (p q : T → Bool) (xs : List T) → list_any (λ x. p x || q x) xs ≡ (list_any p xs || list_any q xs)
  list_any-or p q [] = refl
  list_any-or p q (x ∷ xs) =
      ap (λ b. (p x || q x) || b) (list_any-or p q xs)
      ∙ or_assoc (p x) (q x) (list_any p xs || list_any q xs)
      ∙ ap (λ b. p x || b) (or_swap (q x) (list_any p xs) (list_any q xs))
      ∙ sym (or_assoc (p x) (list_any p xs) (q x || list_any q xs))

  pub list_any-filter : (p k : T → Bool) (xs : List T) → list_any p (filter k xs) ≡ list_any (λ x. k x && p x) xs
  list_any-filter p k [] = refl
  list_any-filter p k (x ∷ xs) = by_cases (k x) (list_any-filter p k xs)
    where
      by_cases : (b : Bool) → list_any p (filter k xs) ≡ list_any (λ y. k y && p y) xs → list_any p (cond b (x ∷ filter k xs) (filter k xs)) ≡ ((b && p x) || list_any (λ y. k y && p y) xs)
      by_cases true rest = ap (λ b. p x || b) rest
      by_cases false rest = rest

  pub list_any-map : {A : Type 0} (p : T → Bool) (f : A → T) (xs : List A) → list_any p (map f xs) ≡ list_any (λ x. p (f x)) xs
  list_any-map p f [] = refl
  list_any-map p f (x ∷ xs) = ap (λ b. p (f x) || b) (list_any-map p f xs)

  pub list_any-flat_map : {A : Type 0} (p : T → Bool) (f : A → List T) (xs : List A) → list_any p (flat_map f xs) ≡ list_any (λ x. list_any p (f x)) xs
  list_any-flat_map p f [] = refl
  list_any-flat_map p f (x ∷ xs) = list_any-append p (f x) (flat_map f xs) ∙ ap (λ b. list_any p (f x) || b) (list_any-flat_map p f xs)

  -- some pair passes, whichever is looked for first
  pub list_any-swap : {A : Type 0} (p : A → T → Bool) (xs : List A) (ys : List T) → list_any (λ x. list_any (p x) ys) xs ≡ list_any (λ y. list_any (λ x. p x y) xs) ys
  list_any-swap p [] ys = sym (list_any-none ys)
  list_any-swap p (x ∷ xs) ys = ap (λ b. list_any (p x) ys || b) (list_any-swap p xs ys) ∙ sym (list_any-or (p x) (λ y. list_any (λ z. p z y) xs) ys)

  pub list_all-all : (p : T → Bool) (xs : List T) → AllByRecursion (λ x. p x ≡ true) xs → list_all p xs ≡ true
  list_all-all p [] all = refl
  list_all-all p (x ∷ xs) all = ap (λ b. b && list_all p xs) all.0 ∙ list_all-all p xs all.1

  -- what was found passes its test, and no other that none passes
  pub found-passes : (p : T → Bool) (xs : List T) (x : T) → find p xs ≡ Some x → p x ≡ true
  found-passes p [] x e = cc
  found-passes p (y ∷ ys) x e = by_cases (p y) refl (found-passes p ys x) e
    where
      by_cases : (b : Bool) → p y ≡ b → (find p ys ≡ Some x → p x ≡ true) → cond b (Some y) (find p ys) ≡ Some x → p x ≡ true
      by_cases true is rest e = let same : y ≡ x = cc in rw (← same) is
      by_cases false is rest e = rest e

  pub found-fails : (p q : T → Bool) (xs : List T) (x : T) → find p xs ≡ Some x → list_any q xs ≡ false → q x ≡ false
  found-fails p q [] x e none = cc
  found-fails p q (y ∷ ys) x e none = by_cases (p y) (q y) refl (found-fails p q ys x) e none
    where
      by_cases : (a b : Bool) → q y ≡ b → (find p ys ≡ Some x → list_any q ys ≡ false → q x ≡ false) → cond a (Some y) (find p ys) ≡ Some x → (b || list_any q ys) ≡ false → q x ≡ false
      by_cases a true is rest e none = cc
      by_cases true false is rest e none = let same : y ≡ x = cc in rw (← same) is
      by_cases false false is rest e none = rest e none

-- ---- kept and joined

pub filter-map : {A B : Type 0} (k : B → Bool) (f : A → B) (xs : List A) → filter k (map f xs) ≡ map f (filter (λ x. k (f x)) xs)
filter-map k f [] = refl
filter-map k f (x ∷ xs) = by_cases (k (f x)) (filter-map k f xs)
  where
    by_cases : (b : Bool) → filter k (map f xs) ≡ map f (filter (λ y. k (f y)) xs) → cond b (f x ∷ filter k (map f xs)) (filter k (map f xs)) ≡ map f (cond b (x ∷ filter (λ y. k (f y)) xs) (filter (λ y. k (f y)) xs))
    by_cases true rest = ap (λ z. f x ∷ z) rest
    by_cases false rest = rest

pub filter-all : {T : Type 0} (k l : T → Bool) (xs : List T) → AllByRecursion (λ x. k x ≡ l x) xs → filter k xs ≡ filter l xs
filter-all k l [] all = refl
filter-all k l (x ∷ xs) all = ap (λ b. cond b (x ∷ filter k xs) (filter k xs)) all.0 ∙ ap (λ z. cond (l x) (x ∷ z) z) (filter-all k l xs all.1)

pub filter-none : {T : Type 0} (k : T → Bool) → ((x : T) → k x ≡ false) → (xs : List T) → filter k xs ≡ []
filter-none k none [] = refl
filter-none k none (x ∷ xs) = ap (λ b. cond b (x ∷ filter k xs) (filter k xs)) (none x) ∙ filter-none k none xs

pub flat_map-none : {A B : Type 0} (f : A → List B) → ((x : A) → f x ≡ []) → (xs : List A) → flat_map f xs ≡ []
flat_map-none f none [] = refl
flat_map-none f none (x ∷ xs) = ap (λ z. z ++ flat_map f xs) (none x) ∙ flat_map-none f none xs

-- those that are kept give what all give where the others give nothing
pub flat_map-kept : {A B : Type 0} (f g : A → List B) (k : A → Bool) (xs : List A) → AllByRecursion (λ x. cond (k x) (f x) [] ≡ g x) xs → flat_map f (filter k xs) ≡ flat_map g xs
flat_map-kept f g k [] all = refl
flat_map-kept f g k (x ∷ xs) all = by_cases (k x) all.0 (flat_map-kept f g k xs all.1)
  where
    by_cases : (b : Bool) → cond b (f x) [] ≡ g x → flat_map f (filter k xs) ≡ flat_map g xs → flat_map f (cond b (x ∷ filter k xs) (filter k xs)) ≡ g x ++ flat_map g xs
    by_cases true one rest = ap (λ z. z ++ flat_map f (filter k xs)) one ∙ ap (λ z. g x ++ z) rest
    by_cases false one rest = rest ∙ ap (λ z. z ++ flat_map g xs) one

pub map-flat_map : {A B C : Type 0} (g : B → C) (f : A → List B) (xs : List A) → map g (flat_map f xs) ≡ flat_map (λ x. map g (f x)) xs
map-flat_map g f [] = refl
map-flat_map g f (x ∷ xs) = map-append g (f x) (flat_map f xs) ∙ ap (λ z. map g (f x) ++ z) (map-flat_map g f xs)
