-- Files one after others: their lines, names and bytes.
use Rattle.std.proofs.Common.{◌≡◌, ◌+◌, List, [], ◌∷◌, ◌++◌, refl, sym, ap, ◌∙◌, append_assoc, arith}
use Rattle.cl_io.specs.Files.{Entry, names_of, byte_count}
use Rattle.cl_io.specs.Lines.{lines_of, whole_lines}

pub whole_lines-append : (xs ys : List Entry) → whole_lines (xs ++ ys) ≡ whole_lines xs ++ whole_lines ys
whole_lines-append [] ys = refl
whole_lines-append (x ∷ xs) ys =
    ap (λ z. lines_of x.ended x.bytes ++ z) (whole_lines-append xs ys) ∙ sym (append_assoc (lines_of x.ended x.bytes) (whole_lines xs) (whole_lines ys))

pub names_of-append : (xs ys : List Entry) → names_of (xs ++ ys) ≡ names_of xs ++ names_of ys
names_of-append [] ys = refl
names_of-append (x ∷ xs) ys = ap (λ z. x.name ∷ z) (names_of-append xs ys)

pub byte_count-append : (xs ys : List Entry) → byte_count (xs ++ ys) ≡ byte_count xs + byte_count ys
byte_count-append [] ys = omega arith
byte_count-append (x ∷ xs) ys = omega (arith, byte_count-append xs ys)
