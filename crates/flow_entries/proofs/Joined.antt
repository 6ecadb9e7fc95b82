-- Parts joined by commas, one after another.
use Rattle.std.proofs.Common.{◌≡◌, ℕ, true, false, List, [], ◌∷◌, ◌++◌, refl, ap, sym, append-nil}
use Rattle.flow_entries.specs.Listing.{joined, continued}

-- the first part, and each other one after a comma
pub joined-cons : (part : List ℕ) (parts : List (List ℕ)) → joined (part ∷ parts) ≡ part ++ continued true parts
joined-cons part [] = sym (append-nil part)
joined-cons part (next ∷ parts) = ap (λ rest. part ++ (44 ∷ rest)) (joined-cons next parts)

pub joined_is_continued : (parts : List (List ℕ)) → joined parts ≡ continued false parts
joined_is_continued [] = refl
joined_is_continued (part ∷ parts) = joined-cons part parts
