-- A text is a form of one address at most, and the number of a shortened address.
use Rattle.std.proofs.Common.{◌≡◌, ◌≢◌, ℕ, zero, suc, ◌+◌, ◌-◌, ◌*◌, ◌%◌, ◌^◌, ◌<◌, ◌≤◌, List, [], ◌∷◌, ◌++◌, length, replicate, ◌⊎◌, inl, inr, refl, sym, ap, ◌∙◌, subst, arith}
use Rattle.std.specs.Fmt.{decimal}
use Rattle.std.specs.Int.Digits.{number_from_digits, number_from_digits_after}
use Rattle.std.proofs.Math.Nat.{pow-suc, pow-zero, pow-le-pow_right, mul_assoc}
use Rattle.std.proofs.lemmas.Nat.{pow-add, shl_whole, shl_below, mul-add-lt}
use Rattle.std.proofs.lemmas.Int.Digits.{number_after_append}
use Rattle.std.proofs.lemmas.List.Elements.{All-append}
use Rattle.cl_types.specs.declared.addr.Addr.{Addr}
use Rattle.cl_types.specs.declared.addr.Addr.TheVariants.{V4, V6}
use Rattle.cl_types.specs.declared.reading.Family.TheVariants.{Dotted, Colons}
use Rattle.cl_types.specs.Reading.{IsParts, IsFull, IsShortened, IsDotted, IsOctet, IsAddress, IsPrefix, Lacks, HasNoGap}
use Rattle.cl_types.specs.Addr.{width_of}
use Rattle.cl_types.specs.Prefix.{PrefixData, cleared}
use Rattle.cl_types.proofs.Parts.{parts_unique, parts_lack, lacks_cons, lacks_no_cut, cut_unique, part_same}
use Rattle.cl_types.proofs.Gap.{parts_gap, parts_no_gap, has_gap, gap_unique}

full_full : (t : List ℕ) (m n : ℕ) → IsFull t m → IsFull t n → m ≡ n
full_full t m n p q = p.value ∙ ap (number_from_digits 65536) (parts_unique Colons t p.groups q.groups p.parts q.parts) ∙ sym q.value

full_shortened : (t : List ℕ) (m n : ℕ) → IsFull t m → IsShortened t n → ⊥
full_shortened t m n p q = has_gap q.front_text q.back_text (subst HasNoGap q.whole (parts_no_gap t p.groups p.parts))

shortened_shortened : (t : List ℕ) (m n : ℕ) → IsShortened t m → IsShortened t n → m ≡ n
shortened_shortened t m n p q =
    let same = gap_unique p.front_text q.front_text p.back_text q.back_text (parts_gap p.front_text p.front p.front_parts) (parts_gap q.front_text q.front q.front_parts) (sym p.whole ∙ q.whole) in
    let fronts = parts_unique Colons p.front_text p.front q.front p.front_parts (subst (λ (x : List ℕ). IsParts Colons x q.front) (sym same.0) q.front_parts) in
    let backs = parts_unique Colons p.back_text p.back q.back p.back_parts (subst (λ (x : List ℕ). IsParts Colons x q.back) (sym same.1) q.back_parts) in
    p.value ∙ (λ i. number_from_digits 65536 (fronts i ++ (replicate (8 - (length (fronts i) + length (backs i))) 0 ++ backs i))) ∙ sym q.value

dotted_lacks : (t : List ℕ) (n : ℕ) → IsDotted t n → Lacks 58 t
dotted_lacks t n p = parts_lack Dotted 58 t p.octets (omega arith) (λ e. omega arith) p.parts

colons_cut : (t : List ℕ) (gs : List ℕ) → 2 ≤ length gs → IsParts Colons t gs → Lacks 58 t → ⊥
colons_cut t [] some p lacks = omega arith
colons_cut t (g ∷ []) some p lacks = omega arith
colons_cut t (g ∷ h ∷ gs) some p lacks = lacks_no_cut 58 t p.0 p.1 lacks p.2

not_dotted : (t : List ℕ) (m n : ℕ) → IsDotted t m → IsFull t n ⊎ IsShortened t n → ⊥
not_dotted t m n p (inl q) = colons_cut t q.groups (omega (arith, q.eight)) q.parts (dotted_lacks t m p)
not_dotted t m n p (inr q) = lacks_no_cut 58 t q.front_text (58 ∷ q.back_text) (dotted_lacks t m p) q.whole

same_groups : (t : List ℕ) (m n : ℕ) → IsFull t m ⊎ IsShortened t m → IsFull t n ⊎ IsShortened t n → m ≡ n
same_groups t m n (inl p) (inl q) = full_full t m n p q
same_groups t m n (inl p) (inr q) = absurd (full_shortened t m n p q)
same_groups t m n (inr p) (inl q) = absurd (full_shortened t n m q p)
same_groups t m n (inr p) (inr q) = shortened_shortened t m n p q

pub address_unique : (t : List ℕ) (a b : Addr) → IsAddress t a → IsAddress t b → a ≡ b
address_unique t (V4 m) (V4 n) p q = ap V4 (p.value ∙ ap (number_from_digits 256) (parts_unique Dotted t p.octets q.octets p.parts q.parts) ∙ sym q.value)
address_unique t (V4 m) (V6 n) p q = absurd (not_dotted t m n p q)
address_unique t (V6 m) (V4 n) p q = absurd (not_dotted t n m q p)
address_unique t (V6 m) (V6 n) p q = ap V6 (same_groups t m n p q)

lacks_groups : (t : List ℕ) (n : ℕ) → IsFull t n ⊎ IsShortened t n → Lacks 47 t
lacks_groups t n (inl p) = parts_lack Colons 47 t p.groups (omega arith) (λ e. omega arith) p.parts
lacks_groups t n (inr p) =
    let front = parts_lack Colons 47 p.front_text p.front (omega arith) (λ e. omega arith) p.front_parts in
    let back = parts_lack Colons 47 p.back_text p.back (omega arith) (λ e. omega arith) p.back_parts in
    subst (Lacks 47) (sym p.whole) (All-append (λ b. b ≢ 47) p.front_text (58 ∷ 58 ∷ p.back_text) front (lacks_cons 47 58 (58 ∷ p.back_text) (λ e. omega arith) (lacks_cons 47 58 p.back_text (λ e. omega arith) back)))

-- no address has a slash
pub address_lacks : (t : List ℕ) (a : Addr) → IsAddress t a → Lacks 47 t
address_lacks t (V4 n) p = parts_lack Dotted 47 t p.octets (omega arith) (λ e. omega arith) p.parts
address_lacks t (V6 n) p = lacks_groups t n p

-- digits after a number
after_is : (b n : ℕ) (ds : List ℕ) → number_from_digits_after b n ds ≡ n * b ^ length ds + number_from_digits b ds
after_is b n [] = omega (arith, ap (λ x. n * x) (pow-zero b))
after_is b n (d ∷ ds) =
    after_is b (n * b + d) ds ∙ (rw (pow-suc b (length ds)) (omega (arith, after_is b (0 * b + d) ds)))

after_zeros : (b n z : ℕ) → number_from_digits_after b n (replicate z 0) ≡ n * b ^ z
after_zeros b n zero = omega (arith, ap (λ x. n * x) (pow-zero b))
after_zeros b n (suc z) = after_zeros b (n * b + 0) z ∙ (rw (pow-suc b z) (omega arith))

pub number_shortened : (b z : ℕ) (fs bs : List ℕ) → number_from_digits b (fs ++ (replicate z 0 ++ bs)) ≡ number_from_digits b fs * b ^ (z + length bs) + number_from_digits b bs
number_shortened b z fs bs =
    let n = number_from_digits b fs in
    number_after_append b 0 fs (replicate z 0 ++ bs) ∙ number_after_append b n (replicate z 0) bs
    ∙ ap (λ m. number_from_digits_after b m bs) (after_zeros b n z)
    ∙ after_is b (n * b ^ z) bs
    ∙ ap (λ m. m + number_from_digits b bs) (mul_assoc n (b ^ z) (b ^ length bs) ∙ ap (λ m. n * m) (sym (pow-add b z (length bs))))

wide_pow : (k : ℕ) → 65536 ^ k ≡ 2 ^ (16 * k)
wide_pow zero = refl
wide_pow (suc k) =
    let step : 16 * suc k ≡ 16 * k + 16 = omega arith in
    pow-suc 65536 k ∙ ap (λ m. m * 65536) (wide_pow k) ∙ sym (ap (λ m. 2 ^ m) step ∙ pow-add 2 (16 * k) 16)

-- a number shifted past the gap, one group at least
pub shifted : (n c : ℕ) → c < 8 → n < 65536 ^ c → n * 2 ^ (16 * (7 - c)) % 2 ^ 128 * 2 ^ 16 % 2 ^ 128 ≡ n * 65536 ^ (8 - c)
shifted n c few below =
    let small : n < 2 ^ (16 * c) = subst (λ m. n < m) (wide_pow c) below in
    let sum : 16 * c + 16 * (7 - c) ≡ 112 = omega arith in
    let fits : 16 * c + 16 * (7 - c) ≤ 128 = omega arith in
    let once = shl_whole n (16 * c) (16 * (7 - c)) 128 small fits in
    let below_112 : n * 2 ^ (16 * (7 - c)) < 2 ^ 112 = subst (λ m. n * 2 ^ (16 * (7 - c)) < 2 ^ m) sum (shl_below n (16 * c) (16 * (7 - c)) small) in
    let twice = shl_whole (n * 2 ^ (16 * (7 - c))) 112 16 128 below_112 (omega arith) in
    let whole : 16 * (7 - c) + 16 ≡ 16 * (8 - c) = omega arith in
    ap (λ m. m * 2 ^ 16 % 2 ^ 128) once ∙ twice ∙ mul_assoc n (2 ^ (16 * (7 - c))) (2 ^ 16)
    ∙ ap (λ m. n * m) (sym (pow-add 2 (16 * (7 - c)) 16) ∙ ap (λ m. 2 ^ m) whole ∙ sym (wide_pow (8 - c)))

pub around_fits : (n c m d : ℕ) → c + d < 8 → n < 65536 ^ c → m < 65536 ^ d → n * 65536 ^ (8 - c) + m < 2 ^ 128
around_fits n c m d gap nb mb =
    let all : 8 - c + c ≡ 8 = omega arith in
    let wide : 65536 ^ (8 - c) * 65536 ^ c ≡ 2 ^ 128 = sym (pow-add 65536 (8 - c) c) ∙ ap (λ k. 65536 ^ k) all in
    let rest : m < 65536 ^ (8 - c) = omega (arith, pow-le-pow_right {n = 65536} (omega arith) {i = d} {j = 8 - c} (omega arith)) in
    omega (arith, mul-add-lt n (65536 ^ (8 - c)) m (65536 ^ c) nb rest)

-- the two sides of the slash
pub record Sides (address len : List ℕ) (p : PrefixData) : Type 0 where
  pub a : Addr
  pub form : IsAddress address a
  pub below : p.len ≤ width_of a
  pub octet : IsOctet len p.len
  pub base : p.base ≡ cleared a p.len

pub width_small : (a : Addr) → width_of a < 256
width_small (V4 n) = omega arith
width_small (V6 n) = omega arith

pub prefix_sides : (text address len : List ℕ) (p : PrefixData) → text ≡ address ++ 47 ∷ len → Lacks 47 address → IsPrefix text p → Sides address len p
prefix_sides text address len p whole first o =
    let same = cut_unique 47 o.address_text address (decimal p.len) len (address_lacks o.address_text o.address o.form) first (sym o.whole ∙ whole) in
    record {
      a = o.address;
      form = subst (λ (x : List ℕ). IsAddress x o.address) same.0 o.form;
      below = o.len;
      octet = record { below = omega (arith, o.len, width_small o.address); value = sym same.1 };
      base = o.base;
    }

pub prefix_unique : (text : List ℕ) (p q : PrefixData) → IsPrefix text p → IsPrefix text q → p ≡ q
prefix_unique text p q o r =
    let sides = prefix_sides text r.address_text (decimal q.len) p r.whole (address_lacks r.address_text r.address r.form) o in
    let a = address_unique r.address_text sides.a r.address sides.form r.form in
    let len = part_same Dotted (decimal q.len) p.len q.len sides.octet (record { below = omega (arith, r.len, width_small r.address); value = refl }) in
    (λ i. record { base = (sides.base ∙ (λ j. cleared (a j) (len j)) ∙ sym r.base) i; len = len i })
