-- What holds of all items of a list, and what one of them passes.
use Rattle.std.proofs.Common.{◌≡◌, List, [], ◌∷◌, Bool, true, false, not, ◌||◌, ◌&&◌, if◌then◌else◌, filter, refl, ap, ◌∙◌}
use Rattle.std.specs.List.{AllByRecursion, list_any, list_all}

-- what holds of everything holds of all
pub all_each : {T : Type 0} (P : T → Type 0) → ((x : T) → P x) → (xs : List T) → AllByRecursion P xs
all_each P f [] = tt
all_each P f (x ∷ xs) = (f x, all_each P f xs)

-- what follows from what holds of all holds of all
pub all_weaker : {T : Type 0} (P Q : T → Type 0) → ((x : T) → P x → Q x) → (xs : List T) → AllByRecursion P xs → AllByRecursion Q xs
all_weaker P Q f [] all = tt
all_weaker P Q f (x ∷ xs) all = (f x all.0, all_weaker P Q f xs all.1)

-- what holds of all holds of those that a test keeps
pub all_filter : {T : Type 0} (P : T → Type 0) (keep : T → Bool) (xs : List T) → AllByRecursion P xs → AllByRecursion P (filter keep xs)
all_filter P keep [] all = tt
all_filter P keep (x ∷ xs) all = by_test (keep x) (all_filter P keep xs all.1)
  where
    by_test : (b : Bool) → AllByRecursion P (filter keep xs) → AllByRecursion P (if b then x ∷ filter keep xs else filter keep xs)
    by_test true rest = (all.0, rest)
    by_test false rest = rest

-- a test that all pass keeps all
pub filter_all : {T : Type 0} (keep : T → Bool) (xs : List T) → AllByRecursion (λ x. keep x ≡ true) xs → filter keep xs ≡ xs
filter_all keep [] all = refl
filter_all keep (x ∷ xs) all =
    ap (λ b. if b then x ∷ filter keep xs else filter keep xs) all.0 ∙ ap (λ ys. x ∷ ys) (filter_all keep xs all.1)

pub or_swap : (a b c : Bool) → (a || (b || c)) ≡ (b || (a || c))
or_swap true true c = refl
or_swap true false c = refl
or_swap false b c = refl

pub or_twice : (a c : Bool) → (a || c) ≡ (a || (a || c))
or_twice true c = refl
or_twice false c = refl

-- all pass where none fails
pub list_all-none_fails : {T : Type 0} (p : T → Bool) (xs : List T) → list_all p xs ≡ not (list_any (λ x. not (p x)) xs)
list_all-none_fails p [] = refl
list_all-none_fails p (x ∷ xs) =
    ap (λ b. p x && b) (list_all-none_fails p xs) ∙ not_both (p x) (list_any (λ y. not (p y)) xs)
  where
    not_both : (a b : Bool) → (a && not b) ≡ not (not a || b)
    not_both true b = refl
    not_both false b = refl
