-- The first thing of a list in an order (this project's own words).
use Rattle.std.specs.Prelude.{List, [], ◌∷◌, Option, Some, None, if◌then◌else◌}
use Rattle.std.specs.declared.cmp.Ordering.{Ordering}
use Rattle.std.specs.Ordering.{is_gt}

-- of two the one that is first in the order, and of two that are alike the one that stands first
abbrev pub earlier : {T : Type 0} → (T → T → Ordering) → T → Option T → T
earlier order x None = x
earlier order x (Some y) = if is_gt (order x y) then y else x

-- of a list the one that is first in the order
abbrev pub first : {T : Type 0} → (T → T → Ordering) → List T → Option T
first order [] = None
first order (x ∷ xs) = Some (earlier order x (first order xs))
