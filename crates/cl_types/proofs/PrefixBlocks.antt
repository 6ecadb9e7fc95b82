-- Spans of addresses as blocks.
use Rattle.std.proofs.Common.{◌≡◌, ℕ, ◌+◌, ◌-◌, ◌*◌, ◌/◌, ◌%◌, ◌^◌, ◌<◌, ◌≤◌, List, [], map, get_or, ◌↔◌, refl, sym, ap, ◌∙◌, subst, ⊎_elim, arith}
use Rattle.std.specs.List.{All, Any, AllPairs, Contains}
use Rattle.std.proofs.lemmas.Nat.{shl-shr}
use Rattle.std.proofs.lemmas.Bool.{cases_lt}
use Rattle.std.proofs.lemmas.List.{get_or_default}
use Rattle.std.proofs.Math.Nat.{mod-eq-sub-div-mul, div-mul-le_self, mul-mod_left}
use Rattle.std.proofs.lemmas.List.Elements.{All-map}
use Rattle.cl_types.specs.declared.addr.Addr.{Addr}
use Rattle.cl_types.specs.declared.addr.Addr.TheVariants.{V4, V6}
use Rattle.cl_types.specs.declared.blocks.Span.{Span}
use Rattle.cl_types.specs.Addr.{width_of, number_of, with_number}
use Rattle.cl_types.specs.Prefix.{PrefixData, IsBlock, Holds, cleared}
use Rattle.cl_types.specs.Blocks.{Remains, shorter, IsLargest, IsMaximalBlock, AddressesPrecede, Within, wider, Overshoots, AreSpansOf, AppendsSpansOf, span_of, block_at, FitsWidth}
use Rattle.cl_types.proofs.SpanBounds.{least_within, within_high, ends_within, index_below, wider_below, least_wider, fits_wider, shr_chain}
use Rattle.cl_types.proofs.Remaining.{number-with_number, width-with_number, with_own_number, within_from_holds, holds_from_within, block_len}
use Rattle.cl_types.proofs.Spans.{all_spans}
use Rattle.cl_types.proofs.MaximalSpans.{maximal_found, contains_map, all_contained}
use Rattle.cl_types.proofs.Mapped.{any_map, any_unmap, pairs_map}

-- the other half of the wider span has a number, which is not in this one
sibling : (s : Span) (k : ℕ) → k / 2 ≡ s.index / 2 → (k ≡ s.index → ⊥) → (n : ℕ) × Within (wider s) n × ¬ Within s n
sibling s k half other =
    let t : Span = record { height = s.height; index = k } in
    (k * 2 ^ s.height, least_wider t ∙ half, λ w. other (sym (least_within t) ∙ w))

pub other_half : (s : Span) → (n : ℕ) × Within (wider s) n × ¬ Within s n
other_half s = ⊎_elim
    (λ even. sibling s (s.index + 1) (omega arith) (λ e. omega arith))
    (λ odd. sibling s (s.index - 1) (omega arith) (λ e. omega arith))
    (cases_lt (s.index % 2) 1)

pub block_overshoots : (p : PrefixData) (es : List PrefixData) → Overshoots (λ n. Remains p es (with_number p.base n)) (wider (span_of p))
block_overshoots p es =
    let o = other_half (span_of p) in
    (o.0, o.1, λ r. o.2 (within_from_holds p p.base o.0 r.0))

pub fits_128 : (a : Addr) (s : Span) → FitsWidth (width_of a) s → s.index < 2 ^ (128 - s.height)
fits_128 (V4 m) s f = fits_wider 32 s.height s.index (omega arith) f.fits
fits_128 (V6 m) s f = f.fits

-- ---- a span's numbers and its block's addresses
same_bits : (w h k n : ℕ) → h ≤ w → n / 2 ^ h ≡ k → n / 2 ^ (w - (w - h)) ≡ k * 2 ^ h / 2 ^ (w - (w - h))
same_bits w h k n low e =
    let free : w - (w - h) ≡ h = omega arith in
    ap (λ m. n / 2 ^ m) free ∙ e ∙ sym (ap (λ m. k * 2 ^ h / 2 ^ m) free ∙ shl-shr k h)

bits_same : (w h k n : ℕ) → h ≤ w → n / 2 ^ (w - (w - h)) ≡ k * 2 ^ h / 2 ^ (w - (w - h)) → n / 2 ^ h ≡ k
bits_same w h k n low e =
    let free : h ≡ w - (w - h) = omega arith in
    ap (λ m. n / 2 ^ m) free ∙ e ∙ ap (λ m. k * 2 ^ h / 2 ^ m) (sym free) ∙ shl-shr k h

holds_block : (base a : Addr) (s : Span) → s.height ≤ width_of base → width_of a ≡ width_of base → Within s (number_of a) → Holds (block_at base s) a
holds_block (V4 m) (V4 n) s low same w = record { family = refl; bits = same_bits 32 s.height s.index n low w }
holds_block (V4 m) (V6 n) s low same w = absurd (omega arith)
holds_block (V6 m) (V4 n) s low same w = absurd (omega arith)
holds_block (V6 m) (V6 n) s low same w = record { family = refl; bits = same_bits 128 s.height s.index n low w }

block_holds : (base a : Addr) (s : Span) → s.height ≤ width_of base → Holds (block_at base s) a → Within s (number_of a) × (width_of a ≡ width_of base)
block_holds (V4 m) (V4 n) s low h = (bits_same 32 s.height s.index n low h.bits, refl)
block_holds (V4 m) (V6 n) s low h = absurd (omega (arith, h.family))
block_holds (V6 m) (V4 n) s low h = absurd (omega (arith, h.family))
block_holds (V6 m) (V6 n) s low h = (bits_same 128 s.height s.index n low h.bits, refl)

-- ---- the block one bit shorter
shorter_bits : (w : ℕ) (s : Span) (n : ℕ) → s.height < w → Within (wider s) n → n / 2 ^ (w - (w - s.height - 1)) ≡ s.index * 2 ^ s.height / 2 ^ (w - (w - s.height - 1)) * 2 ^ (w - (w - s.height - 1)) / 2 ^ (w - (w - s.height - 1))
shorter_bits w s n low v =
    let free : w - (w - s.height - 1) ≡ s.height + 1 = omega arith in
    ap (λ m. n / 2 ^ m) free ∙ v ∙ sym (least_wider s) ∙ ap (λ m. s.index * 2 ^ s.height / 2 ^ m) (sym free)
    ∙ sym (shl-shr (s.index * 2 ^ s.height / 2 ^ (w - (w - s.height - 1))) (w - (w - s.height - 1)))

shorter_holds : (base : Addr) (s : Span) (n : ℕ) → s.height < width_of base → Within (wider s) n → Holds (shorter (block_at base s)) (with_number base n)
shorter_holds (V4 m) s n low v = record { family = refl; bits = shorter_bits 32 s n low v }
shorter_holds (V6 m) s n low v = record { family = refl; bits = shorter_bits 128 s n low v }

largest_block : (p : PrefixData) (es : List PrefixData) (s : Span) → FitsWidth (width_of p.base) s → Overshoots (λ n. Remains p es (with_number p.base n)) (wider s) → 0 < (block_at p.base s).len → IsLargest p es (block_at p.base s)
largest_block p es s f o some =
    let low : s.height < width_of p.base = omega arith in
    let small = wider_below (width_of p.base) s o.0 low f.fits o.1 in
    record {
      address = with_number p.base o.0;
      small = subst (λ w. number_of (with_number p.base o.0) < 2 ^ w) (sym (width-with_number p.base o.0)) (omega (arith, number-with_number p.base o.0, small));
      held = shorter_holds p.base s o.0 low o.1;
      outside = o.2;
    }

-- ---- blocks as spans

low_bits : (w h k : ℕ) → h ≤ w → k * 2 ^ h % 2 ^ (w - (w - h)) ≡ 0
low_bits w h k low =
    let free : w - (w - h) ≡ h = omega arith in
    ap (λ m. k * 2 ^ h % 2 ^ m) free ∙ mul-mod_left k (2 ^ h)

block_form : (base : Addr) (s : Span) → s.height ≤ width_of base → IsBlock (block_at base s).base (block_at base s).len
block_form (V4 m) s low = (omega arith, low_bits 32 s.height s.index low)
block_form (V6 m) s low = (omega arith, low_bits 128 s.height s.index low)

-- the bits past the length are zero
whole_number : (w len n : ℕ) → n % 2 ^ (w - len) ≡ 0 → n / 2 ^ (w - len) * 2 ^ (w - len) ≡ n
whole_number w len n zero = omega (arith, mod-eq-sub-div-mul n (2 ^ (w - len)), div-mul-le_self n (2 ^ (w - len)))

block_at_span : (base : Addr) (b : PrefixData) → width_of b.base ≡ width_of base → IsBlock b.base b.len → block_at base (span_of b) ≡ b
block_at_span base b family form =
    let len : width_of base - (width_of b.base - b.len) ≡ b.len = omega (arith, family, block_len b.base b.len form) in
    let number = block_number b.base b.len form in
    let whole = ap (with_number base) number ∙ with_own_number base b.base (sym family) in
    (λ i. record { base = whole i; len = len i })
  where
    block_number : (a : Addr) (len : ℕ) → IsBlock a len → number_of a / 2 ^ (width_of a - len) * 2 ^ (width_of a - len) ≡ number_of a
    block_number (V4 n) len form = whole_number 32 len n form.1
    block_number (V6 n) len form = whole_number 128 len n form.1

-- an address of the block one bit shorter is in the wider span
shorter_bits_within : (w len n m : ℕ) → 0 < len → len ≤ w → m / 2 ^ (w - (len - 1)) ≡ n / 2 ^ (w - (len - 1)) * 2 ^ (w - (len - 1)) / 2 ^ (w - (len - 1)) → m / 2 ^ (w - len + 1) ≡ n / 2 ^ (w - len) / 2
shorter_bits_within w len n m some low e =
    let free : w - (len - 1) ≡ w - len + 1 = omega arith in
    let one : w - len + 1 - (w - len) ≡ 1 = omega arith in
    ap (λ k. m / 2 ^ k) (sym free) ∙ e ∙ shl-shr (n / 2 ^ (w - (len - 1))) (w - (len - 1)) ∙ ap (λ k. n / 2 ^ k) free
    ∙ shr_chain n (w - len) (w - len + 1) (omega arith) ∙ ap (λ k. n / 2 ^ (w - len) / 2 ^ k) one

shorter_within : (b : PrefixData) (a : Addr) → IsBlock b.base b.len → 0 < b.len → Holds (shorter b) a → Within (wider (span_of b)) (number_of a) × (width_of a ≡ width_of b.base)
shorter_within b a form some held = of_base b.base b.len form some held.family held.bits
  where
    of_base : (base : Addr) (len : ℕ) → IsBlock base len → 0 < len → width_of a ≡ width_of (cleared base (len - 1))
        → number_of a / 2 ^ (width_of (cleared base (len - 1)) - (len - 1)) ≡ number_of (cleared base (len - 1)) / 2 ^ (width_of (cleared base (len - 1)) - (len - 1))
        → (number_of a / 2 ^ (width_of base - len + 1) ≡ number_of base / 2 ^ (width_of base - len) / 2) × (width_of a ≡ width_of base)
    of_base (V4 n) len form some family bits = (shorter_bits_within 32 len n (number_of a) some form.0 bits, family)
    of_base (V6 n) len form some family bits = (shorter_bits_within 128 len n (number_of a) some form.0 bits, family)

module _ (p : PrefixData) (es : List PrefixData) (spans : List Span) (whole : FitsWidth (width_of p.base) (span_of p)) (are : AreSpansOf (λ n. Remains p es (with_number p.base n)) (span_of p) spans) where
  pub fit_spans : All (FitsWidth (width_of p.base)) spans
  fit_spans = λ k d h.
      let s = get_or spans k d in
      let low : s.height ≤ width_of p.base = omega (arith, are.lower k d h, whole.low) in
      let least = are.parts k d h (s.index * 2 ^ s.height) (least_within s) in
      record {
        low = low;
        fits = index_below (width_of p.base) s.height s.index low
            (omega (arith, within_high (span_of p) (s.index * 2 ^ s.height) least, ends_within (width_of p.base) (span_of p).height (span_of p).index whole.low whole.fits));
      }

  held_span : (a : Addr) → Any (λ b. Holds b a) (map (block_at p.base) spans) → Any (λ s. Within s (number_of a) × (width_of a ≡ width_of p.base)) spans
  held_span a = any_unmap (block_at p.base) spans (span_of p) (λ s. Within s (number_of a) × (width_of a ≡ width_of p.base)) (λ b. Holds b a)
      (λ k d h held. block_holds p.base a (get_or spans k d) (fit_spans k d h).low held)

  pub exact_blocks : (a : Addr) → Remains p es a ↔ Any (λ b. Holds b a) (map (block_at p.base) spans)
  exact_blocks a = (
    (λ r.
        let own = with_own_number p.base a (sym r.0.family) in
        any_map (block_at p.base) spans (λ s. Within s (number_of a)) (λ b. Holds b a)
        (λ k d h w. holds_block p.base a (get_or spans k d) (fit_spans k d h).low r.0.family w)
        (are.found (number_of a) r.0.bits (subst (Remains p es) (sym own) r))),
    (λ held.
        let found = held_span a held in
        let own = with_own_number p.base a (sym found.4.1) in
        subst (Remains p es) own (are.within (number_of a) (found.0, found.1, found.2, found.3, found.4.0))),
  )

  maximal_each : All (IsMaximalBlock p es) (map (block_at p.base) spans)
  maximal_each = All-map (IsMaximalBlock p es) (block_at p.base) spans
      (λ k d h. record {
        form = block_form p.base (get_or spans k d) (fit_spans k d h).low;
        inside = λ a held. remains_at (get_or spans k d) (λ n w. are.within n (k, get_or spans k d, h, get_or_default spans k (get_or spans k d) d h, w)) a (block_holds p.base a (get_or spans k d) (fit_spans k d h).low held);
        largest = largest_block p es (get_or spans k d) (fit_spans k d h) (are.maximal k d h);
      })
    where
      remains_at : (s : Span) → ((n : ℕ) → Within s n → Remains p es (with_number p.base n)) → (a : Addr) → Within s (number_of a) × (width_of a ≡ width_of p.base) → Remains p es a
      remains_at s has a within = subst (Remains p es) (with_own_number p.base a (sym within.1)) (has (number_of a) within.0)

  maximal_found_block : (b : PrefixData) → IsMaximalBlock p es b → Contains (map (block_at p.base) spans) b
  maximal_found_block b is =
      let family : width_of b.base ≡ width_of p.base = (is.inside b.base (record { family = refl; bits = refl })).0.family in
      let t = span_of b in
      let has : (n : ℕ) → Within t n → Remains p es (with_number p.base n) = (λ n w. is.inside (with_number p.base n) (holds_from_within b p.base n family w)) in
      contains_map (block_at p.base) spans t b (block_at_span p.base b family is.form)
      (maximal_found (λ n. Remains p es (with_number p.base n)) (span_of p) spans are t
      (within_from_holds p p.base (t.index * 2 ^ t.height) (has (t.index * 2 ^ t.height) (least_within t)).0)
      has
      (λ low.
      let o = is.largest (omega (arith, family)) in
      let near = shorter_within b o.address is.form (omega (arith, family)) o.held in
      (number_of o.address, near.0, λ r. o.outside (subst (Remains p es) (with_own_number p.base o.address (sym (near.1 ∙ family))) r))))

  pub maximal_blocks : (b : PrefixData) → IsMaximalBlock p es b ↔ Contains (map (block_at p.base) spans) b
  maximal_blocks b = (maximal_found_block b, all_contained (IsMaximalBlock p es) (map (block_at p.base) spans) b maximal_each)

  pub ascending_blocks : AllPairs AddressesPrecede (map (block_at p.base) spans)
  ascending_blocks = pairs_map (block_at p.base) spans (span_of p) AddressesPrecede
      (λ i j d below within x y hx hy. are.ascending i j d below within (number_of x) (number_of y)
      (block_holds p.base x (get_or spans i d) (fit_spans i d (omega arith)).low hx).0
      (block_holds p.base y (get_or spans j d) (fit_spans j d within).low hy).0)

pub spans_of : (p : PrefixData) (es : List PrefixData) (s : Span) (old new now : List Span) → s ≡ span_of p → old ≡ [] → AppendsSpansOf (λ n. Remains p es (with_number p.base n)) s old new → now ≡ new
    → AreSpansOf (λ n. Remains p es (with_number p.base n)) (span_of p) now
spans_of p es s old new now is none a e =
    subst (λ (t : Span). AreSpansOf (λ n. Remains p es (with_number p.base n)) t now) is (all_spans (λ n. Remains p es (with_number p.base n)) s old new now none a e)

pub whole_fits : (p : PrefixData) (s : Span) → s ≡ span_of p → s.height ≤ width_of p.base → s.index < 2 ^ (width_of p.base - s.height) → FitsWidth (width_of p.base) (span_of p)
whole_fits p s is low fits = subst (FitsWidth (width_of p.base)) is (record { low = low; fits = fits })
