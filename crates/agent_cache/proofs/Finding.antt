-- The first thing of a list that passes a test, and what is found among what a function makes of items.
use Rattle.std.proofs.Common.{◌≡◌, ℕ, ◌+◌, ◌<◌, List, [], ◌∷◌, ◌++◌, ◌&&◌, Bool, true, false, not, Option, Some, None, map, filter, drop, length, get_or, if◌then◌else◌, option_map, refl, sym, ap, ◌∙◌, drop-cons, add-one}
use Rattle.std.specs.List.{list_all}
use Rattle.std.specs.Option.{is_none}
use Rattle.std.specs.declared.cmp.Ordering.{Ordering}
use Rattle.std.specs.declared.cmp.Ordering.TheVariants.{Less, Equal, Greater}
use Rattle.std.specs.Ordering.{match_ordering}
use Rattle.cl_types.specs.Ascending.{found}
use Rattle.cl_types.specs.First.{earlier, first}

module _ {T : Type 0} (order : T → T → Ordering) (p : T → Bool) where
  -- one more item that passes is looked at before the others
  pub wanted_more : (xs later : List T) (i : ℕ) (x : T) (best : Option T) → i < length xs → x ≡ get_or xs i x → p x ≡ true → best ≡ first order (filter p (drop (i + 1) xs) ++ later) → Some (earlier order x best) ≡ first order (filter p (drop i xs) ++ later)
  wanted_more xs later i x best within here wanted after =
      let split : drop i xs ≡ x ∷ drop (i + 1) xs = rw (add-one, drop-cons xs i x within, ← here) refl in
      ap (λ o. Some (earlier order x o)) after
      ∙ sym (ap (λ ys. first order (filter p ys ++ later)) split ∙ ap (λ b. first order ((if b then x ∷ filter p (drop (i + 1) xs) else filter p (drop (i + 1) xs)) ++ later)) wanted)

  -- one that doesn't pass changes nothing
  pub unwanted_more : (xs later : List T) (i : ℕ) (x : T) (best : Option T) → i < length xs → x ≡ get_or xs i x → p x ≡ false → best ≡ first order (filter p (drop (i + 1) xs) ++ later) → best ≡ first order (filter p (drop i xs) ++ later)
  unwanted_more xs later i x best within here not_wanted after =
      let split : drop i xs ≡ x ∷ drop (i + 1) xs = rw (add-one, drop-cons xs i x within, ← here) refl in
      after
      ∙ sym (ap (λ ys. first order (filter p ys ++ later)) split ∙ ap (λ b. first order ((if b then x ∷ filter p (drop (i + 1) xs) else filter p (drop (i + 1) xs)) ++ later)) not_wanted)

-- nothing comes first exactly where all pass and nothing comes first of the others
pub none_first : {T : Type 0} (order : T → T → Ordering) (p : T → Bool) (xs ys : List T) → is_none (first order (filter (λ x. not (p x)) xs ++ ys)) ≡ (list_all p xs && is_none (first order ys))
none_first order p [] ys = refl
none_first order p (x ∷ xs) ys = by_test (p x) (none_first order p xs ys)
  where
    by_test : (b : Bool) → is_none (first order (filter (λ z. not (p z)) xs ++ ys)) ≡ (list_all p xs && is_none (first order ys))
        → is_none (first order ((if not b then x ∷ filter (λ z. not (p z)) xs else filter (λ z. not (p z)) xs) ++ ys)) ≡ ((b && list_all p xs) && is_none (first order ys))
    by_test true rest = rest
    by_test false rest = refl

-- what is found among the made items is made of what is found among the items
pub found_map : {A T : Type 0} (f : A → T) (at : T → Ordering) (xs : List A) → found at (map f xs) ≡ option_map f (found (λ x. at (f x)) xs)
found_map f at [] = refl
found_map f at (x ∷ xs) = by_order (at (f x)) (found_map f at xs)
  where
    by_order : (r : Ordering) → found at (map f xs) ≡ option_map f (found (λ z. at (f z)) xs)
        → match_ordering r (found at (map f xs)) (Some (f x)) None ≡ option_map f (match_ordering r (found (λ z. at (f z)) xs) (Some x) None)
    by_order Less rest = rest
    by_order Equal rest = refl
    by_order Greater rest = refl
