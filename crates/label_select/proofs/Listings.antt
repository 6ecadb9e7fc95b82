-- One more item in a list of texts.
use Rattle.std.proofs.Common.{◌≡◌, ℕ, zero, suc, ◌+◌, ◌<◌, List, [], ◌∷◌, ◌++◌, length, get_or, take, map, refl, sym, ap, ◌∙◌, append_assoc, add-one, arith}
use Rattle.label_select.specs.Written.{listed}

module _ {T : Type 0} (text : T → List ℕ) where
  listed-take_suc : (x : T) (xs : List T) (i : ℕ) (d : T) → i < length xs → listed (map text (take (suc (suc i)) (x ∷ xs))) ≡ listed (map text (take (suc i) (x ∷ xs))) ++ 44 ∷ text (get_or xs i d)
  listed-take_suc x [] i d lt = absurd (omega arith)
  listed-take_suc x (y ∷ ys) zero d lt = refl
  listed-take_suc x (y ∷ ys) (suc i) d lt =
      ap (λ t. text x ++ 44 ∷ t) (listed-take_suc y ys i d (omega arith))
      ∙ sym (append_assoc (text x) (44 ∷ listed (map text (take (suc i) (y ∷ ys)))) (44 ∷ text (get_or ys i d)))

  -- the first item stands alone
  pub listed-first : (xs : List T) (i : ℕ) (x : T) → i < length xs → x ≡ get_or xs i x → i ≡ 0 → listed (map text (take (i + 1) xs)) ≡ text x
  listed-first [] i x lt is first = absurd (omega arith)
  listed-first (y ∷ ys) zero x lt is first = ap text (sym is)
  listed-first (y ∷ ys) (suc i) x lt is first = absurd (omega arith)

  -- each further item stands behind a comma
  pub listed-more : (xs : List T) (i : ℕ) (x : T) → i < length xs → x ≡ get_or xs i x → 0 < i → listed (map text (take (i + 1) xs)) ≡ listed (map text (take i xs)) ++ 44 ∷ text x
  listed-more [] i x lt is further = absurd (omega arith)
  listed-more (y ∷ ys) zero x lt is further = absurd (omega arith)
  listed-more (y ∷ ys) (suc i) x lt is further =
      rw add-one (listed-take_suc y ys i x (omega arith) ∙ ap (λ z. listed (map text (take (suc i) (y ∷ ys))) ++ 44 ∷ text z) (sym is))
