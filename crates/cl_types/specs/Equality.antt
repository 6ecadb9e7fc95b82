-- Equality of plain data as a test.
use Rattle.std.specs.Prelude.{Bool, true, false, ◌&&◌, ◌==◌}
use base.Stored.{Gv, gnil, gnum, gcons, Coded}

-- two trees of numbers, as values are stored in proofs, are one
abbrev pub stored_eq : Gv → Gv → Bool
stored_eq gnil gnil = true
stored_eq (gnum n) (gnum m) = n == m
stored_eq (gcons a b) (gcons c d) = stored_eq a c && stored_eq b d
stored_eq _ _ = false

-- Two values of a type are one. It is known by the code that every type of data has, which tells its
-- values apart.
unfoldable pub is_same : {T : Type 0} → Coded T → T → T → Bool
is_same coded a b = stored_eq (coded.code a) (coded.code b)
