-- Bytes that come one after another compare as the whole text does.
use Rattle.std.proofs.Common.{◌≡◌, ℕ, List, [], ◌∷◌, ◌++◌, refl, sym, ap, ◌∙◌}
use Rattle.std.specs.declared.cmp.Ordering.{Ordering}
use Rattle.std.specs.declared.cmp.Ordering.TheVariants.{Less, Equal, Greater}
use Rattle.std.specs.Ordering.{match_ordering, nat_cmp, ordering_then}
use Rattle.cl_types.specs.Text.{text_order}
use Rattle.label_select.specs.Comparing.{ComparisonData, at_end, come_out, compared, met, met_byte}

pub met-append : (c : ComparisonData) (xs ys : List ℕ) → met c (xs ++ ys) ≡ met (met c xs) ys
met-append c [] ys = refl
met-append c (x ∷ xs) ys = met-append (met_byte c x) xs ys

-- text by text, and a last byte
pub met_last : (c : ComparisonData) (xs : List ℕ) (b : ℕ) → met_byte (met c xs) b ≡ met c (xs ++ b ∷ [])
met_last c xs b = sym (met-append c xs (b ∷ []))

pub met_two : (c : ComparisonData) (xs ys : List ℕ) (b : ℕ) → met_byte (met (met c xs) ys) b ≡ met c (xs ++ (ys ++ b ∷ []))
met_two c xs ys b = met_last (met c xs) ys b ∙ sym (met-append c xs (ys ++ b ∷ []))

pub met_three : (c : ComparisonData) (xs ys zs : List ℕ) (b : ℕ) → met_byte (met (met (met c xs) ys) zs) b ≡ met c (xs ++ (ys ++ (zs ++ b ∷ [])))
met_three c xs ys zs b = met_two (met c xs) ys zs b ∙ sym (met-append c xs (ys ++ (zs ++ b ∷ [])))

-- once a byte differed, nothing more counts
lesser : (rest xs : List ℕ) → met (compared rest Less) xs ≡ compared rest Less
lesser rest [] = refl
lesser rest (x ∷ xs) = lesser rest xs

greater : (rest xs : List ℕ) → met (compared rest Greater) xs ≡ compared rest Greater
greater rest [] = refl
greater rest (x ∷ xs) = greater rest xs

pub comes_out : (xs ys : List ℕ) → come_out (met (compared ys Equal) xs) ≡ text_order xs ys
comes_out [] [] = refl
comes_out [] (y ∷ ys) = refl
comes_out (x ∷ xs) [] = ap come_out (greater [] xs)
comes_out (x ∷ xs) (y ∷ ys) = by_order (nat_cmp x y) (comes_out xs ys)
  where
    by_order : (o : Ordering) → come_out (met (compared ys Equal) xs) ≡ text_order xs ys → come_out (met (compared ys o) xs) ≡ ordering_then o (text_order xs ys)
    by_order Less rest = ap come_out (lesser ys xs)
    by_order Equal rest = rest
    by_order Greater rest = ap come_out (greater ys xs)
