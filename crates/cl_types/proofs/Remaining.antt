-- The spans of blocks, and what excepts leave.
use Rattle.std.proofs.Common.{◌≡◌, ◌≢◌, ℕ, ◌+◌, ◌-◌, ◌*◌, ◌/◌, ◌^◌, ◌<◌, ◌≤◌, List, take, get_or, length, refl, sym, ap, ◌∙◌, subst, arith}
use Rattle.std.specs.List.{All}
use Rattle.std.proofs.lemmas.List.Elements.{All-more, All-take}
use Rattle.std.proofs.lemmas.List.{take-take, get_or-take, length-take-le, take_all}
use Rattle.std.proofs.lemmas.Nat.{shr_below}
use Rattle.cl_types.specs.declared.addr.Addr.{Addr}
use Rattle.cl_types.specs.declared.addr.Addr.TheVariants.{V4, V6}
use Rattle.cl_types.specs.declared.blocks.Span.{Span}
use Rattle.cl_types.specs.declared.blocks.Standing.{Standing}
use Rattle.cl_types.specs.declared.blocks.Standing.TheVariants.{Inside, Outside, Mixed}
use Rattle.cl_types.specs.Addr.{width_of, number_of, with_number}
use Rattle.cl_types.specs.Prefix.{PrefixData, Holds, IsBlock}
use Rattle.cl_types.specs.Blocks.{Within, StandsAs, Remains, span_of}
use Rattle.cl_types.proofs.SpanBounds.{shr_chain, least_within}

pub number-with_number : (a : Addr) (n : ℕ) → number_of (with_number a n) ≡ n
number-with_number (V4 m) n = refl
number-with_number (V6 m) n = refl

pub width-with_number : (a : Addr) (n : ℕ) → width_of (with_number a n) ≡ width_of a
width-with_number (V4 m) n = refl
width-with_number (V6 m) n = refl

pub with_own_number : (a b : Addr) → width_of a ≡ width_of b → with_number a (number_of b) ≡ b
with_own_number (V4 m) (V4 n) e = refl
with_own_number (V4 m) (V6 n) e = absurd (omega arith)
with_own_number (V6 m) (V4 n) e = absurd (omega arith)
with_own_number (V6 m) (V6 n) e = refl

pub within_from_holds : (e : PrefixData) (a : Addr) (n : ℕ) → Holds e (with_number a n) → Within (span_of e) n
within_from_holds e a n h = ap (λ m. m / 2 ^ (span_of e).height) (sym (number-with_number a n)) ∙ h.bits

pub holds_from_within : (e : PrefixData) (a : Addr) (n : ℕ) → width_of e.base ≡ width_of a → Within (span_of e) n → Holds e (with_number a n)
holds_from_within e a n same w = record {
  family = width-with_number a n ∙ sym same;
  bits = ap (λ m. m / 2 ^ (span_of e).height) (number-with_number a n) ∙ w;
}

-- where a number of a span lies in higher spans
pub quotient : (s t : Span) (n : ℕ) → s.height ≤ t.height → Within s n → n / 2 ^ t.height ≡ s.index / 2 ^ (t.height - s.height)
quotient s t n h w = shr_chain n s.height t.height h ∙ ap (λ m. m / 2 ^ (t.height - s.height)) w

module _ (s t : Span) (a : Addr) (e : PrefixData) (is : t ≡ span_of e) (same : width_of e.base ≡ width_of a) where
  abbrev Kept : ℕ → Type 0
  Kept n = ¬ Holds e (with_number a n)

  held_in : (n : ℕ) → Within t n → Holds e (with_number a n)
  held_in n w = holds_from_within e a n same (subst (λ (u : Span). Within u n) is w)

  in_held : (n : ℕ) → Holds e (with_number a n) → Within t n
  in_held n h = subst (λ (u : Span). Within u n) (sym is) (within_from_holds e a n h)

  pub covered : s.height ≤ t.height → s.index / 2 ^ (t.height - s.height) ≡ t.index → StandsAs (λ n. ¬ Holds e (with_number a n)) s Outside
  covered h q = λ n w kept. kept (held_in n (quotient s t n h w ∙ q))

  pub beside_higher : s.height ≤ t.height → s.index / 2 ^ (t.height - s.height) ≢ t.index → StandsAs (λ n. ¬ Holds e (with_number a n)) s Inside
  beside_higher h q = λ n w held. q (sym (quotient s t n h w) ∙ in_held n held)

  pub met : t.height < s.height → t.index / 2 ^ (s.height - t.height) ≡ s.index → StandsAs (λ n. ¬ Holds e (with_number a n)) s Mixed
  met h q =
      let n = t.index * 2 ^ t.height in
      (omega arith, (n, quotient t s n (omega arith) (least_within t) ∙ q, λ kept. kept (held_in n (least_within t))))

  pub beside_lower : t.height < s.height → t.index / 2 ^ (s.height - t.height) ≢ s.index → StandsAs (λ n. ¬ Holds e (with_number a n)) s Inside
  beside_lower h q = λ n w held. q (sym (quotient t s n (omega arith) (in_held n held)) ∙ w)

pub block_len : (a : Addr) (len : ℕ) → IsBlock a len → len ≤ width_of a
block_len (V4 n) len b = b.0
block_len (V6 n) len b = b.0

pub index_fits : (w len n : ℕ) → len ≤ w → n < 2 ^ w → n / 2 ^ (w - len) < 2 ^ (w - (w - len))
index_fits w len n low small =
    let whole : w ≡ w - (w - len) + (w - len) = omega arith in
    shr_below n (w - (w - len)) (w - len) (subst (λ m. n < 2 ^ m) whole small)

-- ---- one except more
module _ (s : Span) (a : Addr) (es : List PrefixData) (i : ℕ) (e : PrefixData) (inside : i < length es) (here : e ≡ get_or es i e) where
  abbrev Apart : ℕ → PrefixData → Type 0
  Apart n x = ¬ Holds x (with_number a n)

  abbrev Left : ℕ → ℕ → Type 0
  Left k n = All (λ x. ¬ Holds x (with_number a n)) (take k es)

  fewer : (n : ℕ) → Left (i + 1) n → Left i n
  fewer n all = subst (All (Apart n)) (take-take i (i + 1) es (omega arith)) (All-take (Apart n) i (take (i + 1) es) all)

  this : (n : ℕ) → Left (i + 1) n → Apart n e
  this n all =
      let whole : length (take (i + 1) es) ≡ i + 1 = length-take-le (i + 1) es (omega arith) in
      subst (Apart n) (get_or-take (i + 1) es i e (omega arith) ∙ sym here) (all i e (omega arith))

  pub stands_more : (st : Standing) → StandsAs (Left i) s st → StandsAs (λ n. ¬ Holds e (with_number a n)) s Inside → StandsAs (Left (i + 1)) s st
  stands_more Inside h g = λ n w. All-more (Apart n) es i e inside (h n w) (subst (Apart n) here (g n w))
  stands_more Outside h g = λ n w all. h n w (fewer n all)
  stands_more Mixed h g = (h.0, (h.1.0, h.1.1, λ all. h.1.2 (fewer h.1.0 all)))

  pub stands_mixed : StandsAs (λ n. ¬ Holds e (with_number a n)) s Mixed → StandsAs (Left (i + 1)) s Mixed
  stands_mixed h = (h.0, (h.1.0, h.1.1, λ all. h.1.2 (this h.1.0 all)))

-- one except that has the whole span
pub stands_outside : (s : Span) (a : Addr) (es : List PrefixData) (i : ℕ) (e : PrefixData) → i < length es → e ≡ get_or es i e → StandsAs (λ n. ¬ Holds e (with_number a n)) s Outside → StandsAs (λ n. All (λ x. ¬ Holds x (with_number a n)) es) s Outside
stands_outside s a es i e inside here out = λ n w all. out n w (subst (λ (x : PrefixData). ¬ Holds x (with_number a n)) (sym here) (all i e inside))

-- no except is left
pub stands_all : (s : Span) (a : Addr) (es : List PrefixData) (k : ℕ) (st : Standing) → length es ≤ k → StandsAs (λ n. All (λ x. ¬ Holds x (with_number a n)) (take k es)) s st → StandsAs (λ n. All (λ x. ¬ Holds x (with_number a n)) es) s st
stands_all s a es k st all h = subst (λ (xs : List PrefixData). StandsAs (λ n. All (λ x. ¬ Holds x (with_number a n)) xs) s st) (take_all k es all) h

-- within the block what remains is what the excepts leave
pub stands_remaining : (p : PrefixData) (es : List PrefixData) (s : Span) (st : Standing) → ((n : ℕ) → Within s n → Within (span_of p) n) → StandsAs (λ n. All (λ x. ¬ Holds x (with_number p.base n)) es) s st → StandsAs (λ n. Remains p es (with_number p.base n)) s st
stands_remaining p es s Inside part h = λ n w. (holds_from_within p p.base n refl (part n w), h n w)
stands_remaining p es s Outside part h = λ n w r. h n w r.1
stands_remaining p es s Mixed part h = (h.0, (h.1.0, h.1.1, λ r. h.1.2 r.1))
