-- Spans of numbers, their halves, and the maximal spans of a set.
use Rattle.std.proofs.Common.{◌≡◌, ℕ, zero, suc, ◌+◌, ◌-◌, ◌*◌, ◌/◌, ◌%◌, ◌^◌, ◌<◌, ◌≤◌, List, [], ◌∷◌, ◌++◌, length, length-append, get_or, ◌⊎◌, inl, inr, ⊎_elim, refl, sym, ap, ◌∙◌, subst, append_assoc, arith}
use Rattle.std.specs.List.{All, Any, AllPairs}
use Rattle.std.proofs.Math.Nat.{div-mul-le_self, pow-suc, pow-le-pow_right}
use Rattle.std.proofs.lemmas.Nat.{shr-shr, le-div, pow_pos}
use Rattle.std.proofs.lemmas.Bool.{cases_lt}
use Rattle.std.proofs.lemmas.List.{get_or_append_left, get_or-append_right}
use Rattle.std.proofs.lemmas.List.Elements.{All-nil, All-cons, All-append, All-weaker, Contains-append_left, Contains-append_right, Contains-append_cases}
use Rattle.cl_types.specs.declared.blocks.Span.{Span}
use Rattle.cl_types.specs.Blocks.{Within, wider, Overshoots, SpansPrecede, IsSubspan, AreSpansOf, AppendsSpansOf}

pub any_left : {X : Type 0} (P : X → Type 0) (xs ys : List X) → Any P xs → Any P (xs ++ ys)
any_left P xs ys a = let c = Contains-append_left xs ys a.1 (a.0, a.2, a.3) in (c.0, a.1, c.1, c.2, a.4)

pub any_right : {X : Type 0} (P : X → Type 0) (xs ys : List X) → Any P ys → Any P (xs ++ ys)
any_right P xs ys a = let c = Contains-append_right xs ys a.1 (a.0, a.2, a.3) in (c.0, a.1, c.1, c.2, a.4)

pub any_cases : {X : Type 0} (P : X → Type 0) (xs ys : List X) → Any P (xs ++ ys) → Any P xs ⊎ Any P ys
any_cases P xs ys a = ⊎_elim
    (λ c. inl (c.0, a.1, c.1, c.2, a.4))
    (λ c. inr (c.0, a.1, c.1, c.2, a.4))
    (Contains-append_cases xs ys a.1 (a.0, a.2, a.3))

pub pairs_append : {X : Type 0} (R : X → X → Type 0) (xs ys : List X) → AllPairs R xs → AllPairs R ys → ((i j : ℕ) (d : X) → i < length xs → j < length ys → R (get_or xs i d) (get_or ys j d)) → AllPairs R (xs ++ ys)
pairs_append {X} R xs ys px py cross = λ i j d below within.
    let whole = length-append xs ys in
    ⊎_elim
    (λ left. rw (get_or_append_left xs ys d i (omega arith), get_or_append_left xs ys d j left) (px i j d below left))
    (λ right. ⊎_elim
    (λ left. rw (get_or_append_left xs ys d i left, get_or-append_right xs ys (length xs) j d refl right) (cross i (j - length xs) d left (omega arith)))
    (λ both. rw (get_or-append_right xs ys (length xs) i d refl both, get_or-append_right xs ys (length xs) j d refl right) (py (i - length xs) (j - length xs) d (omega arith) (omega arith)))
    (cases_lt i (length xs)))
    (cases_lt j (length xs))

-- ---- halves
half_up : (H h n : ℕ) → H ≡ h + 1 → n / 2 ^ H ≡ n / 2 ^ h / 2
half_up H h n e = ap (λ k. n / 2 ^ k) e ∙ sym (shr-shr n h 1)

abbrev lower_half : ℕ → ℕ → Span
lower_half h k = record { height = h; index = k * 2 }

abbrev upper_half : ℕ → ℕ → Span
upper_half h k = record { height = h; index = k * 2 + 1 }

pub lower_part : (s : Span) (h : ℕ) → s.height ≡ h + 1 → IsSubspan s (lower_half h s.index)
lower_part s h e = λ n w. half_up s.height h n e ∙ omega (arith, w)

pub upper_part : (s : Span) (h : ℕ) → s.height ≡ h + 1 → IsSubspan s (upper_half h s.index)
upper_part s h e = λ n w. half_up s.height h n e ∙ omega (arith, w)

in_half : (s : Span) (h n : ℕ) → s.height ≡ h + 1 → Within s n → Within (lower_half h s.index) n ⊎ Within (upper_half h s.index) n
in_half s h n e w =
    let two : n / 2 ^ h / 2 ≡ s.index = sym (half_up s.height h n e) ∙ w in
    ⊎_elim (λ even. inl (omega arith)) (λ odd. inr (omega arith)) (cases_lt (n / 2 ^ h % 2) 1)

div_mono : (m n k : ℕ) → m ≤ n → m / 2 ^ k ≤ n / 2 ^ k
div_mono m n k h = le-div (m / 2 ^ k) n (2 ^ k) (pow_pos k) (omega (arith, div-mul-le_self m (2 ^ k)))

lower_before_upper : (h k : ℕ) → SpansPrecede (lower_half h k) (upper_half h k)
lower_before_upper h k = λ m n low high.
    ⊎_elim (λ less. less) (λ more. absurd (omega (arith, low, high, div_mono n m h more))) (cases_lt m n)

pub parts_up : (whole half : Span) (spans : List Span) → IsSubspan whole half → All (IsSubspan half) spans → All (IsSubspan whole) spans
parts_up whole half spans up parts = All-weaker (IsSubspan half) (IsSubspan whole) (λ s p n w. up n (p n w)) spans parts

pub join_spans : (P : ℕ → Type 0) (s : Span) (h : ℕ) (xs ys : List Span) → s.height ≡ h + 1 → AreSpansOf P (lower_half h s.index) xs → AreSpansOf P (upper_half h s.index) ys → AreSpansOf P s (xs ++ ys)
join_spans P s h xs ys e low high = record {
  found = λ n w p. ⊎_elim
      (λ v. any_left (λ t. Within t n) xs ys (low.found n v p))
      (λ v. any_right (λ t. Within t n) xs ys (high.found n v p))
      (in_half s h n e w);
  within = λ n a. ⊎_elim (low.within n) (high.within n) (any_cases (λ t. Within t n) xs ys a);
  parts = All-append (IsSubspan s) xs ys (parts_up s (lower_half h s.index) xs (lower_part s h e) low.parts) (parts_up s (upper_half h s.index) ys (upper_part s h e) high.parts);
  lower = All-append (λ (t : Span). t.height ≤ s.height) xs ys
      (All-weaker (λ (t : Span). t.height ≤ h) (λ (t : Span). t.height ≤ s.height) (λ t le. omega arith) xs low.lower)
      (All-weaker (λ (t : Span). t.height ≤ h) (λ (t : Span). t.height ≤ s.height) (λ t le. omega arith) ys high.lower);
  maximal = All-append (λ (t : Span). Overshoots P (wider t)) xs ys low.maximal high.maximal;
  ascending = pairs_append SpansPrecede xs ys low.ascending high.ascending
      (λ i j d il jl m n wm wn. lower_before_upper h s.index m n (low.parts i d il m wm) (high.parts j d jl n wn));
}

pub no_spans : (P : ℕ → Type 0) (s : Span) → ((n : ℕ) → Within s n → P n → ⊥) → AreSpansOf P s []
no_spans P s outside = record {
  found = λ n w p. absurd (outside n w p);
  within = λ n a. absurd (omega (arith, a.2));
  parts = λ k d h. absurd (omega arith);
  lower = λ k d h. absurd (omega arith);
  maximal = λ k d h. absurd (omega arith);
  ascending = λ i j d below within. absurd (omega arith);
}

pub whole_span : (P : ℕ → Type 0) (s : Span) → ((n : ℕ) → Within s n → P n) → Overshoots P (wider s) → AreSpansOf P s (s ∷ [])
whole_span P s inside larger = record {
  found = λ n w p. (0, s, omega arith, refl, w);
  within = λ n a. inside n (only a.0 a.1 a.2 a.3 n a.4);
  parts = All-cons (IsSubspan s) s [] (λ n w. w) (All-nil (IsSubspan s));
  lower = All-cons (λ (t : Span). t.height ≤ s.height) s [] (omega arith) (All-nil (λ (t : Span). t.height ≤ s.height));
  maximal = All-cons (λ (t : Span). Overshoots P (wider t)) s [] larger (All-nil (λ (t : Span). Overshoots P (wider t)));
  ascending = λ i j d below within. absurd (omega arith);
}
  where
    only : (k : ℕ) (t : Span) → k < 1 → get_or (s ∷ []) k t ≡ t → (n : ℕ) → Within t n → Within s n
    only zero t h e n w = subst (λ (r : Span). Within r n) (sym e) w
    only (suc k) t h e n w = absurd (omega arith)

-- the wider span of each half is the whole
pub wider_lower : (s : Span) (h : ℕ) (P : ℕ → Type 0) → s.height ≡ h + 1 → Overshoots P s → Overshoots P (wider (lower_half h s.index))
wider_lower s h P e o = (o.0, ap (λ k. o.0 / 2 ^ k) (sym e) ∙ o.1 ∙ omega arith, o.2)

pub wider_upper : (s : Span) (h : ℕ) (P : ℕ → Type 0) → s.height ≡ h + 1 → Overshoots P s → Overshoots P (wider (upper_half h s.index))
wider_upper s h P e o = (o.0, ap (λ k. o.0 / 2 ^ k) (sym e) ∙ o.1 ∙ omega arith, o.2)

-- the halves of an index that fits
pub half_fits : (H h k : ℕ) → H ≡ h + 1 → H ≤ 128 → k < 2 ^ (128 - H) → (k * 2 + 1 < 2 ^ (128 - h)) × (k * 2 + 1 < 2 ^ 128)
half_fits H h k e low fits =
    let step : 128 - h ≡ suc (128 - H) = omega arith in
    let double : 2 ^ (128 - h) ≡ 2 ^ (128 - H) * 2 = ap (λ m. 2 ^ m) step ∙ pow-suc 2 (128 - H) in
    let small : 2 ^ (128 - h) ≤ 2 ^ 128 = pow-le-pow_right {n = 2} (omega arith) {i = 128 - h} {j = 128} (omega arith) in
    (omega arith, omega arith)

-- what the two halves appended, one after the other
pub append_halves : (P : ℕ → Type 0) (s : Span) (h : ℕ) (old mid new : List Span) → s.height ≡ h + 1 → AppendsSpansOf P (lower_half h s.index) old mid → AppendsSpansOf P (upper_half h s.index) mid new → AppendsSpansOf P s old new
append_halves P s h old mid new e low high = record {
  spans = low.spans ++ high.spans;
  appended = high.appended ∙ ap (λ xs. xs ++ high.spans) low.appended ∙ append_assoc old low.spans high.spans;
  are = join_spans P s h low.spans high.spans e low.are high.are;
}

-- what was appended to no spans
pub all_spans : (P : ℕ → Type 0) (s : Span) (old new now : List Span) → old ≡ [] → AppendsSpansOf P s old new → now ≡ new → AreSpansOf P s now
all_spans P s old new now none a e = subst (AreSpansOf P s) (sym (e ∙ a.appended ∙ ap (λ xs. xs ++ a.spans) none)) a.are
