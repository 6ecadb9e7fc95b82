-- How the search for the least window is narrowed, where the neighbours' numbers of the place differ by 1.
use Rattle.std.specs.Prelude.{◌≡◌, ◌<◌, ◌≤◌, true, false, ℕ, ◌+◌, ◌-◌, ◌*◌, nat_lt, List, Bool, Option, Some, None}
use Rattle.priority_assign.specs.declared.numbered.Numbered.{Numbered}
use Rattle.priority_assign.specs.Rules.{number_before}
use Rattle.priority_assign.specs.Windows.{fits}

-- the rules from b up to p have more than two numbers each
abbrev pub is_loose : List Numbered → ℕ → ℕ → Bool
is_loose xs p b = nat_lt (number_before xs p + 2 * (p - b)) (number_before xs b)

-- the nearest loose place before p, of those where windows narrower than w begin
abbrev pub IsNearestLoose : List Numbered → ℕ → ℕ → Option ℕ → Type 0
IsNearestLoose xs p w None = (b : ℕ) → p + 2 ≤ b + w → b < p → is_loose xs p b ≡ false
IsNearestLoose xs p w (Some r) =
    (r < p) × (p + 2 ≤ r + w) × (is_loose xs p r ≡ true) × ((b : ℕ) → r < b → b < p → is_loose xs p b ≡ false)

-- no window narrower than w fits
abbrev pub NoneNarrower : List Numbered → ℕ → ℕ → Type 0
NoneNarrower xs p w = (b v : ℕ) → v < w → fits xs p (record { begin = b; width = v }) ≡ false

-- no window of width w fits that ends with the place
abbrev pub NoneEnding : List Numbered → ℕ → ℕ → Type 0
NoneEnding xs p w = (b : ℕ) → b + w ≡ p + 1 → fits xs p (record { begin = b; width = w }) ≡ false
