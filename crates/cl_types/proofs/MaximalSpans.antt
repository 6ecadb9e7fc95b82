-- Each maximal span of a set is among the spans that were found.
use Rattle.std.proofs.Common.{◌≡◌, ℕ, ◌+◌, ◌-◌, ◌*◌, ◌/◌, ◌^◌, ◌<◌, ◌≤◌, List, map, sym, ap, ◌∙◌, subst, ⊎_elim, arith}
use Rattle.std.specs.List.{All, Any, Contains}
use Rattle.std.proofs.lemmas.Bool.{cases_lt}
use Rattle.std.proofs.lemmas.List.{get_or-map, length-map}
use Rattle.cl_types.specs.declared.blocks.Span.{Span}
use Rattle.cl_types.specs.Blocks.{Within, wider, Overshoots, AreSpansOf}
use Rattle.cl_types.proofs.SpanBounds.{least_within, shr_chain}

-- a span that shares a number with one as high or higher is part of it
nested : (s t : Span) (m n : ℕ) → s.height ≤ t.height → Within s m → Within s n → Within t n → Within t m
nested s t m n low wm wn wt =
    shr_chain m s.height t.height low ∙ ap (λ q. q / 2 ^ (t.height - s.height)) (wm ∙ sym wn) ∙ sym (shr_chain n s.height t.height low) ∙ wt

within_wider : (s : Span) (n : ℕ) → Within s n → Within (wider s) n
within_wider s n w =
    let one : s.height + 1 - s.height ≡ 1 = omega arith in
    shr_chain n s.height (s.height + 1) (omega arith) ∙ ap (λ k. n / 2 ^ s.height / 2 ^ k) one ∙ ap (λ q. q / 2) w

module _ (P : ℕ → Type 0) (whole : Span) (spans : List Span) (are : AreSpansOf P whole spans) (t : Span) where
  abbrev least : ℕ
  least = t.index * 2 ^ t.height

  same_span : ((n : ℕ) → Within t n → P n) → (t.height < whole.height → Overshoots P (wider t)) → (s : Span) → s.height ≤ whole.height → Overshoots P (wider s) → ((n : ℕ) → Within s n → P n) → Within s least → s ≡ t
  same_span inside larger s low over has w =
      ⊎_elim
      (λ below. absurd (over.2 (inside over.0 (nested (wider s) t over.0 least (omega arith) over.1 (within_wider s least w) (least_within t)))))
      (λ not_below. ⊎_elim
      (λ above.
      let o = larger (omega arith) in
      absurd (o.2 (has o.0 (nested (wider t) s o.0 least (omega arith) o.1 (within_wider t least (least_within t)) w))))
      (λ not_above.
      let height : s.height ≡ t.height = omega arith in
      let index : s.index ≡ t.index = sym w ∙ ap (λ h. least / 2 ^ h) height ∙ least_within t in
      (λ i. record { height = height i; index = index i }))
      (cases_lt t.height s.height))
      (cases_lt s.height t.height)

  pub maximal_found : Within whole least → ((n : ℕ) → Within t n → P n) → (t.height < whole.height → Overshoots P (wider t)) → Any (λ s. s ≡ t) spans
  maximal_found part inside larger =
      let a = are.found least part (inside least (least_within t)) in
      let low = subst (λ (s : Span). s.height ≤ whole.height) a.3 (are.lower a.0 a.1 a.2) in
      let over = subst (λ (s : Span). Overshoots P (wider s)) a.3 (are.maximal a.0 a.1 a.2) in
      (a.0, a.1, a.2, a.3, same_span inside larger a.1 low over (λ n w. are.within n (a.0, a.1, a.2, a.3, w)) a.4)

module _ {X Y : Type 0} (f : X → Y) (xs : List X) where
  pub contains_map : (x : X) (y : Y) → f x ≡ y → Any (λ z. z ≡ x) xs → Contains (map f xs) y
  contains_map x y is a =
      (a.0, omega (arith, length-map xs f, a.2), get_or-map f xs a.0 a.1 y a.2 ∙ ap f (a.3 ∙ a.4) ∙ is)

-- what holds of all holds of what the list contains
pub all_contained : {Y : Type 0} (P : Y → Type 0) (ys : List Y) (y : Y) → All P ys → Contains ys y → P y
all_contained P ys y all c = subst P c.2 (all c.0 y c.1)
