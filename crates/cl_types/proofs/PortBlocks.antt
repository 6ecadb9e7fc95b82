-- Spans of ports as values and masks.
use Rattle.std.proofs.Common.{◌≡◌, ℕ, ◌+◌, ◌-◌, ◌*◌, ◌/◌, ◌%◌, ◌^◌, ◌<◌, ◌≤◌, List, map, get_or, ◌↔◌, bit_and, refl, sym, ap, ◌∙◌, subst, arith}
use Rattle.std.specs.List.{All, Any, AllPairs, Contains}
use Rattle.std.proofs.lemmas.Nat.{shl-shr, pow_pos, pow-add, and_le_r}
use Rattle.std.proofs.lemmas.List.{get_or_default}
use Rattle.std.proofs.lemmas.Nat.Bits.{and_high_mask}
use Rattle.std.proofs.Math.Nat.{pow-le-pow_right}
use Rattle.std.proofs.lemmas.List.Elements.{All-map}
use Rattle.std.proofs.Common.{⊎_elim}
use Rattle.std.proofs.lemmas.Bool.{cases_lt}
use Rattle.cl_types.specs.declared.blocks.Span.{Span}
use Rattle.cl_types.specs.declared.service.Masked.{Masked}
use Rattle.cl_types.specs.Blocks.{Matches, IsAligned, twice, IsWidest, IsMaximalPorts, PortsPrecede, Within, wider, Overshoots, AreSpansOf, mask_of, IsPortSpan}
use Rattle.cl_types.proofs.SpanBounds.{least_within, within_high, ends_within, index_below, wider_below, least_wider}
use Rattle.cl_types.proofs.MaximalSpans.{maximal_found, contains_map, all_contained}
use Rattle.cl_types.proofs.Mapped.{any_map, any_unmap, pairs_map}

abbrev pub all_ports : Span
all_ports = record { height = 16; index = 0 }

same_quotient : (q k h : ℕ) → q * 2 ^ h ≡ k * 2 ^ h → q ≡ k
same_quotient q k h e = sym (shl-shr q h) ∙ ap (λ m. m / 2 ^ h) e ∙ shl-shr k h

within_from_matches : (s : Span) (n : ℕ) → s.height ≤ 16 → n < 2 ^ 16 → Matches (mask_of s) n → Within s n
within_from_matches s n low small m = same_quotient (n / 2 ^ s.height) s.index s.height (sym (and_high_mask 16 s.height low n small) ∙ m)

matches_from_within : (s : Span) (n : ℕ) → s.height ≤ 16 → n < 2 ^ 16 → Within s n → Matches (mask_of s) n
matches_from_within s n low small w = and_high_mask 16 s.height low n small ∙ ap (λ q. q * 2 ^ s.height) w

aligned_mask : (s : Span) → IsPortSpan s → IsAligned (mask_of s)
aligned_mask s p = record {
  zeros = s.height;
  few = p.low;
  mask = refl;
  value = matches_from_within s (s.index * 2 ^ s.height) p.low p.fits (least_within s);
}

-- the mask of twice the size has one bit fewer
twice_mask : (h : ℕ) → h < 16 → 2 * (2 ^ 16 - 2 ^ h) % 2 ^ 16 ≡ 2 ^ 16 - 2 ^ (h + 1)
twice_mask h low =
    let double : 2 ^ (h + 1) ≡ 2 * 2 ^ h = omega (arith, pow-add 2 h 1) in
    let fits : 2 ^ (h + 1) ≤ 2 ^ 16 = pow-le-pow_right {n = 2} (omega arith) {i = h + 1} {j = 16} (omega arith) in
    omega (arith, pow_pos h)

twice_matches : (s : Span) (n : ℕ) → IsPortSpan s → s.height < 16 → n < 2 ^ 16 → Within (wider s) n → Matches (twice (mask_of s)) n
twice_matches s n p low small w =
    let wide = twice_mask s.height low in
    ap (λ m. bit_and n m) wide ∙ and_high_mask 16 (s.height + 1) (omega arith) n small
    ∙ ap (λ q. q * 2 ^ (s.height + 1)) (w ∙ sym (least_wider s))
    ∙ sym (ap (λ m. bit_and (s.index * 2 ^ s.height) m) wide ∙ and_high_mask 16 (s.height + 1) (omega arith) (s.index * 2 ^ s.height) p.fits)

widest_mask : (lo hi : ℕ) (s : Span) → IsPortSpan s → Overshoots (λ n. (lo ≤ n) × (n ≤ hi)) (wider s) → 0 < (mask_of s).mask → IsWidest lo hi (mask_of s)
widest_mask lo hi s p o some =
    let low : s.height < 16 = lower s.height some in
    let small = wider_below 16 s o.0 low (index_below 16 s.height s.index p.low p.fits) o.1 in
    record { port = o.0; small = small; matches = twice_matches s o.0 p low small o.1; outside = o.2 }
  where
    lower : (h : ℕ) → 0 < 2 ^ 16 - 2 ^ h → h < 16
    lower h some = ⊎_elim (λ l. l) (λ m. absurd (omega (arith, pow-le-pow_right {n = 2} (omega arith) {i = 16} {j = h} m))) (cases_lt h 16)

-- ---- masks as spans

abbrev span_of_mask : Masked → ℕ → Span
span_of_mask b zeros = record { height = zeros; index = b.value / 2 ^ zeros }

small_value : (b : Masked) → IsAligned b → b.value < 2 ^ 16
small_value b is = omega (arith, is.value, is.mask, and_le_r b.value b.mask, pow_pos is.zeros)

-- the value has no bit below the mask's
whole_value : (b : Masked) (is : IsAligned b) → b.value / 2 ^ is.zeros * 2 ^ is.zeros ≡ b.value
whole_value b is =
    sym (and_high_mask 16 is.zeros is.few b.value (small_value b is)) ∙ ap (bit_and b.value) (sym is.mask) ∙ is.value

mask_of_span : (b : Masked) (is : IsAligned b) → mask_of (span_of_mask b is.zeros) ≡ b
mask_of_span b is =
    let value = whole_value b is in
    let mask = sym is.mask in
    (λ i. record { value = value i; mask = mask i })

mask_span_fits : (b : Masked) (is : IsAligned b) → IsPortSpan (span_of_mask b is.zeros)
mask_span_fits b is = record { low = is.few; fits = omega (arith, whole_value b is, small_value b is) }

port_below : (t : Span) (n : ℕ) → IsPortSpan t → Within t n → n < 2 ^ 16
port_below t n p w =
    omega (arith, within_high t n w, ends_within 16 t.height t.index p.low (index_below 16 t.height t.index p.low p.fits))

some_mask : (b : Masked) (is : IsAligned b) → is.zeros < 16 → 0 < b.mask
some_mask b is low =
    let smaller : 2 ^ is.zeros * 2 ≤ 2 ^ 16 = omega (arith, pow-add 2 is.zeros 1, pow-le-pow_right {n = 2} (omega arith) {i = is.zeros + 1} {j = 16} (omega arith)) in
    omega (arith, is.mask, pow_pos is.zeros)

within_from_twice : (s : Span) (n : ℕ) → IsPortSpan s → s.height < 16 → n < 2 ^ 16 → Matches (twice (mask_of s)) n → Within (wider s) n
within_from_twice s n p low small m =
    let wide = twice_mask s.height low in
    let here = sym (ap (λ k. bit_and n k) wide ∙ and_high_mask 16 (s.height + 1) (omega arith) n small) in
    let there = ap (λ k. bit_and (s.index * 2 ^ s.height) k) wide ∙ and_high_mask 16 (s.height + 1) (omega arith) (s.index * 2 ^ s.height) p.fits in
    same_quotient (n / 2 ^ (s.height + 1)) (s.index * 2 ^ s.height / 2 ^ (s.height + 1)) (s.height + 1) (here ∙ m ∙ there) ∙ least_wider s

module _ (lo hi : ℕ) (spans : List Span) (are : AreSpansOf (λ n. (lo ≤ n) × (n ≤ hi)) all_ports spans) where
  pub port_spans : All IsPortSpan spans
  port_spans = λ k d h.
      let s = get_or spans k d in
      let zero = are.parts k d h (s.index * 2 ^ s.height) (least_within s) in
      record { low = are.lower k d h; fits = omega (arith, zero) }

  pub exact_ports : (port : ℕ) → port < 2 ^ 16 → ((lo ≤ port) × (port ≤ hi)) ↔ Any (λ b. Matches b port) (map mask_of spans)
  exact_ports port small = (
    (λ inside. any_map mask_of spans (λ s. Within s port) (λ b. Matches b port)
        (λ k d h w. matches_from_within (get_or spans k d) port (are.lower k d h) small w)
        (are.found port (omega arith) inside)),
    (λ a. are.within port (any_unmap mask_of spans all_ports (λ s. Within s port) (λ b. Matches b port)
        (λ k d h m. within_from_matches (get_or spans k d) port (are.lower k d h) small m) a)),
  )

  maximal_mask : All (IsMaximalPorts lo hi) (map mask_of spans)
  maximal_mask = All-map (IsMaximalPorts lo hi) mask_of spans
      (λ k d h. record {
        form = aligned_mask (get_or spans k d) (port_spans k d h);
        inside = λ port small m. are.within port (k, get_or spans k d, h, get_or_default spans k (get_or spans k d) d h, within_from_matches (get_or spans k d) port (are.lower k d h) small m);
        widest = widest_mask lo hi (get_or spans k d) (port_spans k d h) (are.maximal k d h);
      })

  maximal_found_port : (b : Masked) → IsMaximalPorts lo hi b → Contains (map mask_of spans) b
  maximal_found_port b is =
      let t = span_of_mask b is.form.zeros in
      let same = mask_of_span b is.form in
      let fits = mask_span_fits b is.form in
      contains_map mask_of spans t b same
      (maximal_found (λ n. (lo ≤ n) × (n ≤ hi)) all_ports spans are t
      (omega (arith, fits.fits))
      (λ n w.
      let small = port_below t n fits w in
      is.inside n small (subst (λ (c : Masked). Matches c n) same (matches_from_within t n fits.low small w)))
      (λ low.
      let o = is.widest (some_mask b is.form low) in
      (o.port, within_from_twice t o.port fits low o.small (subst (λ (c : Masked). Matches (twice c) o.port) (sym same) o.matches), o.outside)))

  pub maximal_ports : (b : Masked) → IsMaximalPorts lo hi b ↔ Contains (map mask_of spans) b
  maximal_ports b = (maximal_found_port b, all_contained (IsMaximalPorts lo hi) (map mask_of spans) b maximal_mask)

  pub ascending_ports : AllPairs PortsPrecede (map mask_of spans)
  ascending_ports = pairs_map mask_of spans all_ports PortsPrecede
      (λ i j d below within m n sm sn a b. are.ascending i j d below within m n
      (within_from_matches (get_or spans i d) m (are.lower i d (omega arith)) sm a)
      (within_from_matches (get_or spans j d) n (are.lower j d within) sn b))
