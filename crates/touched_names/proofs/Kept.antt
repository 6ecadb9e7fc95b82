-- What lists give whose items are kept by a test.
use Rattle.std.proofs.Common.{◌≡◌, List, [], ◌++◌, Bool, cond, filter, refl, sym, ap₂, ◌∙◌, append_assoc}
use Rattle.std.specs.List.{flat_map}
use Rattle.watch_streams.specs.OneOfAll.{all_of, flat_map-kept}

pub kept_only : {A B : Type 0} (f : A → List B) (k : A → Bool) (xs : List A) → flat_map (λ x. cond (k x) (f x) []) xs ≡ flat_map f (filter k xs)
kept_only f k xs = sym (flat_map-kept f (λ x. cond (k x) (f x) []) k xs (all_of (λ x. cond (k x) (f x) [] ≡ cond (k x) (f x) []) (λ x. refl) xs))

pub three_pushed : {A : Type 0} (old a b d more last all : List A) → more ≡ old ++ a → last ≡ more ++ b → all ≡ last ++ d → all ≡ old ++ (a ++ (b ++ d))
three_pushed old a b d more last all first second third =
    rw (third, second, first) (simp append_assoc)
