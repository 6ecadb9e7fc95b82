-- An IPv4 address has one text.
use Rattle.std.proofs.Common.{◌≡◌, ℕ, ◌+◌, ◌*◌, ◌/◌, ◌%◌, ◌<◌, ◌^◌, List, [], ◌∷◌, ◌++◌, length, refl, sym, ◌∙◌, arith}
use Rattle.std.specs.Fmt.{decimal}
use Rattle.std.specs.Int.Digits.{number_from_digits}
use Rattle.cl_types.specs.declared.reading.Family.TheVariants.{Dotted}
use Rattle.cl_types.specs.Reading.{IsParts, IsDotted}
use Rattle.cl_types.specs.Written.{dotted}

joined : (a b c d : ℕ) → List ℕ
joined a b c d = decimal a ++ (46 ∷ (decimal b ++ (46 ∷ (decimal c ++ (46 ∷ decimal d)))))

four_parts : (text : List ℕ) (a b c d : ℕ) → IsParts Dotted text (a ∷ b ∷ c ∷ d ∷ []) → text ≡ joined a b c d
unfolding joined
four_parts text a b c d h =
    let one = h.3 in
    let after_a = h.4 in
    let two = after_a.3 in
    let after_b = after_a.4 in
    let three = after_b.3 in
    let last = after_b.4 in
    rw (h.2, one.value, after_a.2, two.value, after_b.2, three.value, last.value) refl

below_256 : (text : List ℕ) (a b c d : ℕ) → IsParts Dotted text (a ∷ b ∷ c ∷ d ∷ []) → (a < 256) × (b < 256) × (c < 256) × (d < 256)
below_256 text a b c d h = (h.3.below, h.4.3.below, h.4.4.3.below, h.4.4.4.below)

written : (n a b c d : ℕ) → (a < 256) × (b < 256) × (c < 256) × (d < 256) → n ≡ ((a * 256 + b) * 256 + c) * 256 + d → dotted n ≡ joined a b c d
unfolding joined
written n a b c d h e =
    let at_a : n / 16777216 % 256 ≡ a = omega arith in
    let at_b : n / 65536 % 256 ≡ b = omega arith in
    let at_c : n / 256 % 256 ≡ c = omega arith in
    let at_d : n % 256 ≡ d = omega arith in
    rw (at_a, at_b, at_c, at_d) refl

of_octets : (text octets : List ℕ) (n : ℕ) → length octets ≡ 4 → IsParts Dotted text octets → n ≡ number_from_digits 256 octets → (text ≡ dotted n) × (n < 2 ^ 32)
of_octets text [] n four parts value = absurd (omega arith)
of_octets text (a ∷ []) n four parts value = absurd (omega arith)
of_octets text (a ∷ b ∷ []) n four parts value = absurd (omega arith)
of_octets text (a ∷ b ∷ c ∷ []) n four parts value = absurd (omega arith)
of_octets text (a ∷ b ∷ c ∷ d ∷ []) n four parts value =
    let small = below_256 text a b c d parts in
    let is : n ≡ ((a * 256 + b) * 256 + c) * 256 + d = omega arith in
    (four_parts text a b c d parts ∙ sym (written n a b c d small is), omega (arith, small.0, small.1, small.2, small.3))
of_octets text (a ∷ b ∷ c ∷ d ∷ e ∷ rest) n four parts value = absurd (omega arith)

pub dotted_text_is_written : (text : List ℕ) (n : ℕ) → IsDotted text n → (text ≡ dotted n) × (n < 2 ^ 32)
dotted_text_is_written text n h = of_octets text h.octets n h.four h.parts h.value
