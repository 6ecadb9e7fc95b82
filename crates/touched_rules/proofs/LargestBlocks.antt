-- Each block has its largest blocks, and so each complete rule matches something.
use Rattle.std.proofs.Common.{◌≡◌, ℕ, zero, suc, ◌+◌, ◌-◌, ◌*◌, ◌/◌, ◌^◌, ◌<◌, List, [], ◌∷◌, ◌++◌, map, refl, sym, ◌∙◌, subst, ◌⊎◌, inl, inr, ⊎_elim, arith}
use Rattle.std.specs.List.{All}
use Rattle.std.proofs.lemmas.Bool.{cases_lt, cases_eq}
use Rattle.std.proofs.lemmas.Nat.{shr_below}
use Rattle.std.proofs.lemmas.List.Elements.{All-nil, All-cons, All-head, All-tail}
use Rattle.cl_types.specs.declared.addr.Addr.{Addr}
use Rattle.cl_types.specs.Addr.{number_of, width_of, with_number}
use Rattle.cl_types.specs.Prefix.{Holds, PrefixData}
use Rattle.cl_types.specs.Blocks.{AreSpansOf, FitsWidth, IsSubspan, Overshoots, Remains, Within, block_at, span_of, wider}
use Rattle.cl_types.proofs.PrefixBlocks.{ascending_blocks, block_overshoots, maximal_blocks}
use Rattle.cl_types.proofs.Remaining.{beside_higher, beside_lower, covered, holds_from_within, met, width-with_number}
use Rattle.cl_types.proofs.Spans.{join_spans, lower_part, no_spans, upper_part, whole_span, wider_lower, wider_upper}
use Rattle.cluster_types.specs.declared.policy.Block.{Block}
use Rattle.watch_streams.specs.InForce.{AreLargestBlocks}
use Rattle.touched_rules.specs.Addresses.{HasAddress}

-- ---- how spans lie

-- spans are what blocks are made of
abbrev gives : {A B : Type 0} → (A → B) → Type 0
gives {B = B} f = B

abbrev Span : Type 0
Span = gives span_of

-- a span is in the set, outside it, or neither
abbrev IsIn : (ℕ → Type 0) → Span → Type 0
IsIn P s = (n : ℕ) → Within s n → P n

abbrev IsOut : (ℕ → Type 0) → Span → Type 0
IsOut P s = (n : ℕ) → Within s n → ¬ P n

abbrev IsMixed : (ℕ → Type 0) → Span → Type 0
IsMixed P s = (0 < s.height) × Overshoots P s

abbrev Stands : (ℕ → Type 0) → Span → Type 0
Stands P s = IsIn P s ⊎ (IsOut P s ⊎ IsMixed P s)

module _ (a : Addr) (s : Span) where
  abbrev Apart : ℕ → PrefixData → Type 0
  Apart n x = ¬ Holds x (with_number a n)

  beside : (e : PrefixData) → Stands (λ n. Apart n e) s
  beside e = ⊎_elim same_family (λ other. inl (λ n w held. other (sym (held.family) ∙ width-with_number a n))) (cases_eq (width_of e.base) (width_of a))
    where
      same_family : width_of e.base ≡ width_of a → Stands (λ n. Apart n e) s
      same_family same = ⊎_elim
          (λ lower. ⊎_elim (λ is. inr (inr (met s (span_of e) a e refl same lower is))) (λ other. inl (beside_lower s (span_of e) a e refl same lower other)) (cases_eq ((span_of e).index / 2 ^ (s.height - (span_of e).height)) s.index))
          (λ higher. ⊎_elim (λ is. inr (inl (covered s (span_of e) a e refl same higher is))) (λ other. inl (beside_higher s (span_of e) a e refl same higher other)) (cases_eq (s.index / 2 ^ ((span_of e).height - s.height)) (span_of e).index))
          (cases_lt (span_of e).height s.height)

  abbrev Left : List PrefixData → ℕ → Type 0
  Left es n = All (Apart n) es

  left : (es : List PrefixData) → Stands (Left es) s
  left [] = inl (λ n w. All-nil (Apart n))
  left (e ∷ es) = one_more (beside e) (left es)
    where
      one_more : Stands (λ n. Apart n e) s → Stands (Left es) s → Stands (Left (e ∷ es)) s
      one_more (inl here) (inl rest) = inl (λ n w. All-cons (Apart n) e es (here n w) (rest n w))
      one_more (inl here) (inr (inl out)) = inr (inl (λ n w all. out n w (All-tail (Apart n) e es all)))
      one_more (inl here) (inr (inr m)) = inr (inr (m.0, (m.1.0, m.1.1, λ all. m.1.2 (All-tail (Apart m.1.0) e es all))))
      one_more (inr (inl out)) rest = inr (inl (λ n w all. out n w (All-head (Apart n) e es all)))
      one_more (inr (inr m)) (inr (inl out)) = inr (inl (λ n w all. out n w (All-tail (Apart n) e es all)))
      one_more (inr (inr m)) rest = inr (inr (m.0, (m.1.0, m.1.1, λ all. m.1.2 (All-head (Apart m.1.0) e es all))))

-- ---- the maximal spans of what remains of a block

module _ (p : PrefixData) (es : List PrefixData) where
  abbrev Rest : ℕ → Type 0
  Rest n = Remains p es (with_number p.base n)

  stands : (s : Span) → IsSubspan (span_of p) s → Stands Rest s
  stands s part = of_left (left p.base s es)
    where
      of_left : Stands (Left p.base s es) s → Stands Rest s
      of_left (inl here) = inl (λ n w. (holds_from_within p p.base n refl (part n w), here n w))
      of_left (inr (inl out)) = inr (inl (λ n w rest. out n w rest.1))
      of_left (inr (inr m)) = inr (inr (m.0, (m.1.0, m.1.1, λ rest. m.1.2 rest.1)))

  abbrev Spans : Span → Type 0
  Spans s = (spans : List Span) × AreSpansOf Rest s spans

  spans_of_height : (h : ℕ) (s : Span) → s.height ≡ h → IsSubspan (span_of p) s → Overshoots Rest (wider s) → Spans s
  spans_of_height zero s low part over = by_standing (stands s part)
    where
      by_standing : Stands Rest s → Spans s
      by_standing (inl here) = (s ∷ [], whole_span Rest s here over)
      by_standing (inr (inl out)) = ([], no_spans Rest s out)
      by_standing (inr (inr m)) = absurd (omega (arith, m.0))
  spans_of_height (suc h) s low part over = by_standing (stands s part) (λ t. spans_of_height h t)
    where
      by_standing : Stands Rest s → ((t : Span) → t.height ≡ h → IsSubspan (span_of p) t → Overshoots Rest (wider t) → Spans t) → Spans s
      by_standing (inl here) halves = (s ∷ [], whole_span Rest s here over)
      by_standing (inr (inl out)) halves = ([], no_spans Rest s out)
      by_standing (inr (inr m)) halves =
          let one : s.height ≡ h + 1 = omega arith in
          let lower = halves (record { height = h; index = s.index * 2 }) refl (λ n w. part n (lower_part s h one n w)) (wider_lower s h Rest one m.1) in
          let upper = halves (record { height = h; index = s.index * 2 + 1 }) refl (λ n w. part n (upper_part s h one n w)) (wider_upper s h Rest one m.1) in
          (lower.0 ++ upper.0, join_spans Rest s h lower.0 upper.0 one lower.1 upper.1)

  whole_spans : Spans (span_of p)
  whole_spans = spans_of_height (span_of p).height (span_of p) refl (λ n w. w) (block_overshoots p es)

span_fits : (w len n : ℕ) → n < 2 ^ w → n / 2 ^ (w - len) < 2 ^ (w - (w - len))
span_fits w len n small =
    let whole : w ≡ w - (w - len) + (w - len) = omega arith in
    shr_below n (w - (w - len)) (w - len) (subst (λ m. n < 2 ^ m) whole small)

pub largest_blocks : (b : Block) → HasAddress b → (blocks : List PrefixData) × AreLargestBlocks b blocks
largest_blocks b small =
    let p = b.cidr in
    let there = whole_spans p b.excepts in
    let fits : FitsWidth (width_of p.base) (span_of p) = record { low = omega arith; fits = span_fits (width_of p.base) p.len (number_of p.base) small } in (
      map (block_at p.base) there.0,
      record { exact = maximal_blocks p b.excepts there.0 fits there.1; ascending = ascending_blocks p b.excepts there.0 fits there.1 },
    )
