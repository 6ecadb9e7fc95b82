-- Numbers spread evenly over a window, and what changes by it.
use Rattle.std.proofs.Common.{◌≡◌, ℕ, ◌+◌, ◌-◌, ◌*◌, ◌/◌, ◌<◌, ◌≤◌, List, [], ◌∷◌, ◌++◌, length, refl, arith, ap, suc, cond, eqb, eq-eqb, true, false}
use Rattle.std.proofs.lemmas.Bool.{eqb-true}
use Rattle.std.proofs.lemmas.Nat.{le-div}
use Rattle.cl_types.specs.declared.keys.RuleKey.{RuleKey}
use Rattle.priority_assign.specs.declared.numbered.Numbered.{Numbered}
use Rattle.priority_assign.specs.Rules.{keys, FallsBetween}
use Rattle.priority_assign.specs.Insertion.{even_number, evenly, changes}

div_step : (i d c : ℕ) → 0 < c → c ≤ d → i * d / c < (i + 1) * d / c
div_step i d c pos le =
    let q = i * d / c in
    let whole : (q + 1) * c ≤ (i + 1) * d = omega arith in
    omega (arith, le-div (q + 1) ((i + 1) * d) c pos whole)

pub even_number-rises : (l u w i : ℕ) → w + 1 ≤ u - l → even_number l u w i < even_number l u w (i + 1)
even_number-rises l u w i le = omega (arith, div_step i (u - l) (w + 1) (omega arith) le)

pub keys-evenly : (l u w i : ℕ) (ks : List RuleKey) → keys (evenly l u w i ks) ≡ ks
keys-evenly l u w i [] = refl
keys-evenly l u w i (k ∷ ks) = ap (λ rest. k ∷ rest) (keys-evenly l u w (i - 1) ks)

pub length-evenly : (l u w i : ℕ) (ks : List RuleKey) → length (evenly l u w i ks) ≡ length ks
length-evenly l u w i [] = refl
length-evenly l u w i (k ∷ ks) = ap suc (length-evenly l u w (i - 1) ks)

pub evenly-append : (l u w i j : ℕ) (ks js : List RuleKey) → j ≡ i - length ks → evenly l u w i (ks ++ js) ≡ evenly l u w i ks ++ evenly l u w j js
evenly-append l u w i j [] js e = ap (λ n. evenly l u w n js) (omega arith)
evenly-append l u w i j (k ∷ ks) js e =
    ap (λ rest. record { key = k; number = even_number l u w i } ∷ rest) (evenly-append l u w (i - 1) j ks js (omega arith))

pub FallsBetween-evenly : (l u w i j : ℕ) (ks : List RuleKey) → w + 1 ≤ u - l → i ≡ length ks → j ≡ i + 1 → FallsBetween (even_number l u w j) l (evenly l u w i ks)
FallsBetween-evenly l u w i j [] le e f = rw f (omega (arith, even_number-rises l u w i le))
FallsBetween-evenly l u w i j (k ∷ ks) le e f =
    rw f (even_number-rises l u w i le, FallsBetween-evenly l u w (i - 1) i ks le (omega (arith, e)) (omega (arith, e)))

pub changes-same : (xs : List Numbered) → changes xs xs ≡ []
changes-same [] = refl
changes-same (x ∷ xs) = rw (eq-eqb x.number x.number refl) (changes-same xs)

pub changes-append : (xs ys xs' ys' : List Numbered) → length xs ≡ length ys → changes (xs ++ xs') (ys ++ ys') ≡ changes xs ys ++ changes xs' ys'
changes-append [] [] xs' ys' e = refl
changes-append [] (y ∷ ys) xs' ys' e = absurd (omega (arith, e))
changes-append (x ∷ xs) [] xs' ys' e = absurd (omega (arith, e))
changes-append (x ∷ xs) (y ∷ ys) xs' ys' e =
    let rest = changes-append xs ys xs' ys' (omega (arith, e)) in
    elim (eqb x.number y.number) as (λ b. cond b (changes (xs ++ xs') (ys ++ ys')) (y ∷ changes (xs ++ xs') (ys ++ ys')) ≡ cond b (changes xs ys) (y ∷ changes xs ys) ++ changes xs' ys')
    [ true ↦ rest | false ↦ ap (λ zs. y ∷ zs) rest ]

same_rule : (x y : Numbered) → x.key ≡ y.key → x.number ≡ y.number → x ≡ y
same_rule x y h e = λ i. record { key = h i; number = e i }

-- the same keys, and no number changed
pub same_from_changes : (xs ys : List Numbered) → keys xs ≡ keys ys → changes xs ys ≡ [] → xs ≡ ys
same_from_changes [] [] k h = refl
same_from_changes [] (y ∷ ys) k h = cc
same_from_changes (x ∷ xs) [] k h = cc
same_from_changes (x ∷ xs) (y ∷ ys) k h =
    elim (eqb x.number y.number) as (λ b. eqb x.number y.number ≡ b → cond b (changes xs ys) (y ∷ changes xs ys) ≡ [] → x ∷ xs ≡ y ∷ ys) [
      | true ↦ λ e g.
          let same_key : x.key ≡ y.key = cc in
          let same_keys : keys xs ≡ keys ys = cc in
          let first = same_rule x y same_key (eqb-true x.number y.number e) in
          let rest = same_from_changes xs ys same_keys g in
          cc
      | false ↦ λ e g. cc
    ] refl h
