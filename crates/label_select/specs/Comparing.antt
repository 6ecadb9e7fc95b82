-- A text that is compared with another one byte after byte, as they come (this project's own).
use Rattle.std.specs.Prelude.{ℕ, List, [], ◌∷◌}
use Rattle.std.specs.declared.cmp.Ordering.{Ordering}
use Rattle.std.specs.declared.cmp.Ordering.TheVariants.{Less, Equal, Greater}
use Rattle.std.specs.Ordering.{match_ordering, nat_cmp}

-- how the bytes so far compare, and what of the other text is left where they are equal
pub record ComparisonData : Type 0 where
  pub rest : List ℕ
  pub order : Ordering

abbrev pub compared : List ℕ → Ordering → ComparisonData
compared rest order = record { rest = rest; order = order }

-- a text comes behind those that begin it
abbrev pub met_first : List ℕ → ℕ → ComparisonData
met_first [] x = compared [] Greater
met_first (y ∷ ys) x = compared ys (nat_cmp x y)

-- the first byte that differs decides
abbrev pub met_byte : ComparisonData → ℕ → ComparisonData
met_byte c x = match_ordering c.order c (met_first c.rest x) c

abbrev pub met : ComparisonData → List ℕ → ComparisonData
met c [] = c
met c (x ∷ xs) = met (met_byte c x) xs

abbrev pub at_end : List ℕ → Ordering
at_end [] = Equal
at_end (y ∷ ys) = Less

-- how the text compares once all of it came
abbrev pub come_out : ComparisonData → Ordering
come_out c = match_ordering c.order Less (at_end c.rest) Greater
