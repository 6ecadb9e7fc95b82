-- Where a span begins and ends.
use Rattle.std.proofs.Common.{◌≡◌, ℕ, zero, suc, ◌+◌, ◌-◌, ◌*◌, ◌/◌, ◌%◌, ◌^◌, ◌<◌, ◌≤◌, refl, sym, ap, ◌∙◌, subst, ⊎_elim, arith}
use Rattle.std.proofs.Math.Nat.{div-eq_of_lt-le, mod-eq_of_lt, pow-le-pow_right}
use Rattle.std.proofs.lemmas.Nat.{pow-add, pow_pos, mul-le, shr_split, shr-shr, mod_below, shl-shr, shr_below}
use Rattle.std.proofs.lemmas.Bool.{cases_lt}
use Rattle.cl_types.specs.declared.blocks.Span.{Span}
use Rattle.cl_types.specs.Blocks.{Within, wider, Overshoots}

-- an index that fits the width ends below it
pub ends_within : (w h k : ℕ) → h ≤ w → k < 2 ^ (w - h) → (k + 1) * 2 ^ h ≤ 2 ^ w
ends_within w h k low fits =
    let whole : w - h + h ≡ w = omega arith in
    omega (arith, mul-le (k + 1) (2 ^ h) (2 ^ (w - h)) (2 ^ h) (omega arith) (omega arith), pow-add 2 (w - h) h, ap (λ m. 2 ^ m) whole)

pub begins_below : (w h k : ℕ) → h ≤ w → k < 2 ^ (w - h) → k * 2 ^ h < 2 ^ w
begins_below w h k low fits = omega (arith, ends_within w h k low fits, pow_pos h)

pub shifted_whole : (h k : ℕ) → h ≤ 128 → k < 2 ^ (128 - h) → k * 2 ^ h % 2 ^ 128 ≡ k * 2 ^ h
shifted_whole h k low fits = mod-eq_of_lt (begins_below 128 h k low fits)

pub within_low : (s : Span) (n : ℕ) → Within s n → s.index * 2 ^ s.height ≤ n
within_low s n w = omega (arith, shr_split n s.height, ap (λ q. q * 2 ^ s.height) w)

pub within_high : (s : Span) (n : ℕ) → Within s n → n < (s.index + 1) * 2 ^ s.height
within_high s n w = omega (arith, shr_split n s.height, ap (λ q. q * 2 ^ s.height) w, mod_below n (2 ^ s.height) (pow_pos s.height))

pub within_from : (s : Span) (n : ℕ) → s.index * 2 ^ s.height ≤ n → n < (s.index + 1) * 2 ^ s.height → Within s n
within_from s n low high = div-eq_of_lt-le (2 ^ s.height) low high

pub least_within : (s : Span) → Within s (s.index * 2 ^ s.height)
least_within s = shl-shr s.index s.height

-- a span that meets a range and isn't in it
pub mixed_ports : (s : Span) (lo hi least greatest : ℕ) → least ≡ s.index * 2 ^ s.height → greatest + 1 ≡ (s.index + 1) * 2 ^ s.height → lo ≤ greatest → least ≤ hi → (lo ≤ least → greatest ≤ hi → ⊥)
    → (0 < s.height) × Overshoots (λ n. (lo ≤ n) × (n ≤ hi)) s
mixed_ports s lo hi least greatest l g above below apart = (
  high s.height refl,
  ⊎_elim
      (λ before. (least, subst (Within s) (sym l) (least_within s), λ p. omega (arith, p.0)))
      (λ from. (greatest, within_from s greatest (omega (arith, pow_pos s.height)) (omega arith), λ p. apart from p.1))
      (cases_lt least lo),
)
  where
    high : (h : ℕ) → s.height ≡ h → 0 < s.height
    high zero e =
        let one : 2 ^ s.height ≡ 1 = ap (λ m. 2 ^ m) e in
        let same : greatest ≡ least = omega (arith, ap (λ m. s.index * m) one, ap (λ m. (s.index + 1) * m) one) in
        absurd (apart (omega arith) (omega arith))
    high (suc h) e = omega arith

-- a quotient by a higher power goes by the lower one
pub shr_chain : (n a b : ℕ) → a ≤ b → n / 2 ^ b ≡ n / 2 ^ a / 2 ^ (b - a)
shr_chain n a b h =
    let whole : a + (b - a) ≡ b = omega arith in
    ap (λ m. n / 2 ^ m) (sym whole) ∙ sym (shr-shr n a (b - a))

-- an index that fits a width fits 128 bits
pub fits_wider : (w h k : ℕ) → w ≤ 128 → k < 2 ^ (w - h) → k < 2 ^ (128 - h)
fits_wider w h k low fits = omega (arith, pow-le-pow_right {n = 2} (omega arith) {i = w - h} {j = 128 - h} (omega arith))

pub index_below : (w h k : ℕ) → h ≤ w → k * 2 ^ h < 2 ^ w → k < 2 ^ (w - h)
index_below w h k low below =
    let whole : w ≡ w - h + h = omega arith in
    omega (arith, shl-shr k h, shr_below (k * 2 ^ h) (w - h) h (subst (λ m. k * 2 ^ h < 2 ^ m) whole below))

pub half_below : (w h k : ℕ) → h < w → k < 2 ^ (w - h) → k / 2 < 2 ^ (w - (h + 1))
half_below w h k low below =
    let whole : w - h ≡ w - (h + 1) + 1 = omega arith in
    shr_below k (w - (h + 1)) 1 (subst (λ m. k < 2 ^ m) whole below)

-- the numbers of the wider span are below the width
pub wider_below : (w : ℕ) (s : Span) (n : ℕ) → s.height < w → s.index < 2 ^ (w - s.height) → Within (wider s) n → n < 2 ^ w
wider_below w s n low fits v =
    omega (arith, within_high (wider s) n v, ends_within w (s.height + 1) (s.index / 2) (omega arith) (half_below w s.height s.index low fits))

-- the quotient of the least number by the next power
pub least_wider : (s : Span) → s.index * 2 ^ s.height / 2 ^ (s.height + 1) ≡ s.index / 2
least_wider s = sym (shr-shr (s.index * 2 ^ s.height) s.height 1) ∙ ap (λ m. m / 2) (shl-shr s.index s.height)
