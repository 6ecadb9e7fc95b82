-- What is written of an address is read as that address.
use Rattle.std.proofs.Common.{◌≡◌, ℕ, zero, suc, ◌+◌, ◌-◌, ◌*◌, ◌/◌, ◌%◌, ◌^◌, ◌<◌, ◌≤◌, List, [], ◌∷◌, ◌++◌, length, length-drop, map, take, drop, get_or, replicate, Bool, true, false, cond, eqb, ltb, inl, inr, refl, sym, ap, ◌∙◌, subst, add-one, nat_lt, ◌⊎◌, arith}
use Rattle.std.specs.List.{join_with_byte, AllByRecursion}
use Rattle.std.specs.Fmt.{decimal, digits}
use Rattle.std.specs.Int.Digits.{number_from_digits}
use Rattle.std.proofs.lemmas.Fmt.{digits_is_IsNumeral}
use Rattle.std.proofs.lemmas.Int.Digits.{number_push}
use Rattle.std.proofs.lemmas.List.{get_or-append_right, get_or_append_left, get_or-replicate, length-replicate, length-take-le, length_push}
use Rattle.std.proofs.lemmas.Nat.{div-add-mod', div_below}
use Rattle.std.proofs.Math.Nat.{pow-suc, pow-zero}
use borrow.Author.Tests.{eqb-true, eq-eqb, ltb-true, ltb-false}
use Rattle.cl_types.specs.declared.addr.Addr.{Addr}
use Rattle.cl_types.specs.declared.addr.Addr.TheVariants.{V4, V6}
use Rattle.cl_types.specs.declared.reading.Family.{Family}
use Rattle.cl_types.specs.declared.reading.Family.TheVariants.{Dotted, Colons}
use Rattle.cl_types.specs.declared.writing.ZeroRun.{ZeroRun}
use Rattle.cl_types.specs.Addr.{width_of, number_of}
use Rattle.cl_types.specs.Prefix.{PrefixData, IsBlock, cleared}
use Rattle.cl_types.specs.Reading.{separator_of, IsPart, IsParts, IsHexGroup, IsFull, IsShortened, IsDotted, IsAddress, IsPrefix}
use Rattle.cl_types.specs.Written.{IsZeroRun, places, groups_of, zeros_at_front, longest_run, hexadecimal_groups, compressed, dotted, address_text, prefix_text}
use Rattle.cl_types.proofs.Digits.{length-digits-le}

parts_joined : (f : Family) (w : ℕ → List ℕ) (ns : List ℕ) → AllByRecursion (λ n. IsPart f (w n) n) ns → IsParts f (join_with_byte (separator_of f) (map w ns)) ns
parts_joined f w [] h = refl
parts_joined f w (n ∷ []) h = h.0
parts_joined f w (n ∷ m ∷ ns) h = (w n, join_with_byte (separator_of f) (map w (m ∷ ns)), refl, h.0, parts_joined f w (m ∷ ns) h.1)

dotted_is_read : (n : ℕ) → n < 2 ^ 32 → IsDotted (dotted n) n
dotted_is_read n h = record {
  octets = n / 16777216 % 256 ∷ n / 65536 % 256 ∷ n / 256 % 256 ∷ n % 256 ∷ [];
  four = refl;
  parts = parts_joined Dotted decimal (n / 16777216 % 256 ∷ n / 65536 % 256 ∷ n / 256 % 256 ∷ n % 256 ∷ [])
      (record { below = omega arith; value = refl }, (record { below = omega arith; value = refl }, (record { below = omega arith; value = refl }, (record { below = omega arith; value = refl }, tt))));
  value = omega arith;
}

-- below 65536, each
abbrev AreGroups : List ℕ → Type 0
AreGroups gs = AllByRecursion (λ g. g < 65536) gs

group_is_read : (g : ℕ) → g < 65536 → IsHexGroup (digits 16 false g) g
group_is_read g h =
    let numeral = digits_is_IsNumeral 16 false (omega arith) (omega arith) g (omega arith) in
    record {
      digits = numeral.0.1;
      some = numeral.0.0;
      short = length-digits-le 16 (omega arith) 3 g (omega arith) (omega arith);
      value = sym numeral.1;
    }

groups_are_read : (gs : List ℕ) → AreGroups gs → AllByRecursion (λ g. IsPart Colons (digits 16 false g) g) gs
groups_are_read [] h = tt
groups_are_read (g ∷ gs) h = (group_is_read g h.0, groups_are_read gs h.1)

hexadecimal_is_read : (gs : List ℕ) → AreGroups gs → IsParts Colons (hexadecimal_groups gs) gs
hexadecimal_is_read gs h = parts_joined Colons (digits 16 false) gs (groups_are_read gs h)

all_take : (k : ℕ) (gs : List ℕ) → AreGroups gs → AreGroups (take k gs)
all_take zero gs h = tt
all_take (suc k) [] h = tt
all_take (suc k) (g ∷ gs) h = (h.0, all_take k gs h.1)

all_drop : (k : ℕ) (gs : List ℕ) → AreGroups gs → AreGroups (drop k gs)
all_drop zero gs h = h
all_drop (suc k) [] h = tt
all_drop (suc k) (g ∷ gs) h = all_drop k gs h.1

all_push : (gs : List ℕ) (g : ℕ) → AreGroups gs → g < 65536 → AreGroups (gs ++ g ∷ [])
all_push [] g h k = (k, tt)
all_push (x ∷ gs) g h k = (h.0, all_push gs g h.1 k)

places_are_groups : (k n : ℕ) → AreGroups (places k 65536 n)
places_are_groups zero n = tt
places_are_groups (suc k) n = all_push (places k 65536 (n / 65536)) (n % 65536) (places_are_groups k (n / 65536)) (omega arith)

length-places : (k b n : ℕ) → length (places k b n) ≡ k
length-places zero b n = refl
length-places (suc k) b n = omega (arith, length_push (places k b (n / b)) (n % b), length-places k b (n / b))

number_places : (k b n : ℕ) → 0 < b → n < b ^ k → number_from_digits b (places k b n) ≡ n
number_places zero b n some h = omega (arith, pow-zero b)
number_places (suc k) b n some h =
    let front = number_places k b (n / b) some (div_below n b (b ^ k) some (omega (arith, pow-suc b k))) in
    number_push b (places k b (n / b)) (n % b) ∙ ap (λ m. m * b + n % b) front ∙ div-add-mod' n b

-- ---- the run of zeros
pub record IsRun (gs : List ℕ) (before len : ℕ) : Type 0 where
  pub end : ℕ
  pub end_is : end ≡ before + len
  pub within : end ≤ length gs
  pub zeros : gs ≡ take before gs ++ (replicate len 0 ++ drop end gs)

zeros_step : (g : ℕ) (gs : List ℕ) (t : Bool) → eqb g 0 ≡ t → IsRun gs 0 (zeros_at_front gs) → IsRun (g ∷ gs) 0 (cond t (zeros_at_front gs + 1) 0)
zeros_step g gs true e r =
    let none : g ≡ 0 = eqb-true g 0 e in
    subst (IsRun (g ∷ gs) 0) (sym (add-one (zeros_at_front gs)))
    (record {
      end = suc r.end;
      end_is = omega (arith, r.end_is);
      within = omega (arith, r.within);
      zeros = λ i. none i ∷ r.zeros i;
    })
zeros_step g gs false e r = record { end = 0; end_is = omega arith; within = omega arith; zeros = refl }

front_zeros : (gs : List ℕ) → IsRun gs 0 (zeros_at_front gs)
front_zeros [] = record { end = 0; end_is = omega arith; within = omega arith; zeros = refl }
front_zeros (g ∷ gs) = zeros_step g gs (eqb g 0) refl (front_zeros gs)

-- a run further on, with one group more in front
later_run : (g : ℕ) (gs : List ℕ) (before len : ℕ) → IsRun gs before len → IsRun (g ∷ gs) (suc before) len
later_run g gs before len r = record {
  end = suc r.end;
  end_is = omega (arith, r.end_is);
  within = omega (arith, r.within);
  zeros = ap (λ xs. g ∷ xs) r.zeros;
}

pub record RunFound (start : ℕ) (gs : List ℕ) (run : ZeroRun) : Type 0 where
  pub before : ℕ
  pub place : run.start ≡ start + before
  pub is_run : IsRun gs before run.len

run_step : (start g : ℕ) (gs : List ℕ) (t : Bool) → RunFound (start + 1) gs (longest_run (start + 1) gs)
    → RunFound start (g ∷ gs) (cond t (longest_run (start + 1) gs) (record { start = start; len = zeros_at_front (g ∷ gs) }))
run_step start g gs true later = record {
  before = suc later.before;
  place = omega (arith, later.place);
  is_run = later_run g gs later.before (longest_run (start + 1) gs).len later.is_run;
}
run_step start g gs false later = record { before = 0; place = omega arith; is_run = front_zeros (g ∷ gs) }

run_found : (start : ℕ) (gs : List ℕ) → RunFound start gs (longest_run start gs)
run_found start [] = record { before = 0; place = omega arith; is_run = record { end = 0; end_is = omega arith; within = omega arith; zeros = refl } }
run_found start (g ∷ gs) = run_step start g gs (ltb (zeros_at_front (g ∷ gs)) (longest_run (start + 1) gs).len) (run_found (start + 1) gs)

-- ---- the whole text
shortened_is_read : (n : ℕ) (gs : List ℕ) (start len : ℕ) → length gs ≡ 8 → AreGroups gs → n ≡ number_from_digits 65536 gs → 2 ≤ len → IsRun gs start len
    → IsShortened (hexadecimal_groups (take start gs) ++ (58 ∷ 58 ∷ hexadecimal_groups (drop (start + len) gs))) n
shortened_is_read n gs start len eight all value long run =
    let front : length (take start gs) ≡ start = length-take-le start gs (omega (arith, run.within, run.end_is)) in
    let back : length (drop (start + len) gs) ≡ 8 - (start + len) = omega (arith, length-drop (start + len) gs) in
    let gap : 8 - (length (take start gs) + length (drop (start + len) gs)) ≡ len = omega (arith, run.within, run.end_is) in
    record {
      front = take start gs;
      back = drop (start + len) gs;
      front_text = hexadecimal_groups (take start gs);
      back_text = hexadecimal_groups (drop (start + len) gs);
      gap = omega (arith, run.within, run.end_is);
      whole = refl;
      front_parts = hexadecimal_is_read (take start gs) (all_take start gs all);
      back_parts = hexadecimal_is_read (drop (start + len) gs) (all_drop (start + len) gs all);
      value = value ∙ ap (number_from_digits 65536) (run.zeros ∙ (λ i. take start gs ++ (replicate (sym gap i) 0 ++ drop (run.end_is i) gs)));
    }

by_length : (n : ℕ) (gs : List ℕ) (run : ZeroRun) (t : Bool) → nat_lt run.len 2 ≡ t → length gs ≡ 8 → AreGroups gs → n ≡ number_from_digits 65536 gs → RunFound 0 gs run
    → let text = cond t (hexadecimal_groups gs) (hexadecimal_groups (take run.start gs) ++ (58 ∷ 58 ∷ hexadecimal_groups (drop (run.start + run.len) gs))) in IsFull text n ⊎ IsShortened text n
by_length n gs run true e eight all value found = inl (record { groups = gs; eight = eight; parts = hexadecimal_is_read gs all; value = value })
by_length n gs run false e eight all value found =
    let place : found.before ≡ run.start = omega (arith, found.place) in
    inr (shortened_is_read n gs run.start run.len eight all value (ltb-false run.len 2 e) (subst (λ k. IsRun gs k run.len) place found.is_run))

compressed_is_read : (n : ℕ) → n < 2 ^ 128 → IsFull (compressed (groups_of n)) n ⊎ IsShortened (compressed (groups_of n)) n
compressed_is_read n h =
    let gs = groups_of n in
    by_length n gs (longest_run 0 gs) (nat_lt (longest_run 0 gs).len 2) refl (length-places 8 65536 n) (places_are_groups 8 n) (sym (number_places 8 65536 n (omega arith) (omega arith))) (run_found 0 gs)

pub written_address_is_read : (a : Addr) → number_of a < 2 ^ width_of a → IsAddress (address_text a) a
written_address_is_read (V4 n) h = dotted_is_read n h
written_address_is_read (V6 n) h = compressed_is_read n h

no_bits_past : (n k : ℕ) → n % 2 ^ k ≡ 0 → n / 2 ^ k * 2 ^ k ≡ n
no_bits_past n k h = omega (arith, div-add-mod' n (2 ^ k))

block_is_cleared : (a : Addr) (len : ℕ) → IsBlock a len → (len ≤ width_of a) × (a ≡ cleared a len)
block_is_cleared (V4 n) len b = (b.0, ap V4 (sym (no_bits_past n (32 - len) b.1)))
block_is_cleared (V6 n) len b = (b.0, ap V6 (sym (no_bits_past n (128 - len) b.1)))

pub written_prefix_is_read : (b : PrefixData) → number_of b.base < 2 ^ width_of b.base → IsBlock b.base b.len → IsPrefix (prefix_text b) b
written_prefix_is_read b h block =
    let whole = block_is_cleared b.base b.len block in
    record {
      address = b.base;
      address_text = address_text b.base;
      whole = refl;
      form = written_address_is_read b.base h;
      len = whole.0;
      base = whole.1;
    }

-- ---- no run is longer
front_longest : (gs : List ℕ) (m : ℕ) → m ≤ length gs → ((k : ℕ) → k < m → get_or gs k 0 ≡ 0) → m ≤ zeros_at_front gs
front_longest gs zero h zeros = omega arith
front_longest [] (suc m) h zeros = absurd (omega arith)
front_longest (g ∷ gs) (suc m) h zeros =
    let none : eqb g 0 ≡ true = eq-eqb g 0 (zeros 0 (omega arith)) in
    let rest = front_longest gs m (omega arith) (λ k l. zeros (suc k) (omega arith)) in
    omega (arith, rest, ap (λ t. cond t (zeros_at_front gs + 1) 0) none)

abbrev Beats : ℕ → ZeroRun → ℕ → ℕ → Type 0
Beats start r i m = (m ≤ r.len) × (m ≡ r.len → r.start ≤ start + i)

-- the run that starts here, or one further on, against the one that is chosen
chosen : (start here i m : ℕ) (later : ZeroRun) (t : Bool) → ltb here later.len ≡ t → (i ≡ 0 → m ≤ here) → (0 < i → (m ≤ later.len) × (m ≡ later.len → later.start ≤ start + i)) → Beats start (cond t later (record { start = start; len = here })) i m
chosen start here zero m later true e first rest =
    let more = ltb-true here later.len e in
    (omega (arith, first refl), λ same. absurd (omega (arith, first refl)))
chosen start here zero m later false e first rest = (first refl, λ same. omega arith)
chosen start here (suc i) m later true e first rest = rest (omega arith)
chosen start here (suc i) m later false e first rest =
    let less = ltb-false here later.len e in
    (omega (arith, (rest (omega arith)).0), λ same. omega arith)

run_beats : (start : ℕ) (gs : List ℕ) (i m : ℕ) → i + m ≤ length gs → ((k : ℕ) → i ≤ k → k < i + m → get_or gs k 0 ≡ 0) → Beats start (longest_run start gs) i m
run_beats start [] i m h zeros = (omega arith, λ e. omega arith)
run_beats start (g ∷ gs) i m h zeros =
    chosen start (zeros_at_front (g ∷ gs)) i m (longest_run (start + 1) gs) (ltb (zeros_at_front (g ∷ gs)) (longest_run (start + 1) gs).len) refl
    (λ none. front_longest (g ∷ gs) m (omega arith) (λ k l. zeros k (omega arith) (omega arith)))
    (later i h zeros (λ j. run_beats (start + 1) gs j m))
  where
    later : (i : ℕ) → i + m ≤ suc (length gs) → ((k : ℕ) → i ≤ k → k < i + m → get_or (g ∷ gs) k 0 ≡ 0)
        → ((j : ℕ) → j + m ≤ length gs → ((k : ℕ) → j ≤ k → k < j + m → get_or gs k 0 ≡ 0) → Beats (start + 1) (longest_run (start + 1) gs) j m)
        → 0 < i → (m ≤ (longest_run (start + 1) gs).len) × (m ≡ (longest_run (start + 1) gs).len → (longest_run (start + 1) gs).start ≤ start + i)
    later zero h zeros rec some = absurd (omega arith)
    later (suc j) h zeros rec some =
        let r = rec j (omega arith) (λ k low high. zeros (suc k) (omega arith) (omega arith)) in
        (r.0, λ same. omega (arith, r.1 same))

pub longest_is : (gs : List ℕ) (start len : ℕ) → IsZeroRun gs start len → (len ≤ (longest_run 0 gs).len) × (len ≡ (longest_run 0 gs).len → (longest_run 0 gs).start ≤ start)
longest_is gs start len r =
    let b = run_beats 0 gs start len r.within r.zeros in
    (b.0, λ same. omega (arith, b.1 same))

-- the run that was found is one
zeros_between : (gs : List ℕ) (before len k : ℕ) → IsRun gs before len → before ≤ k → k < before + len → get_or gs k 0 ≡ 0
zeros_between gs before len k r low high =
    let front : length (take before gs) ≡ before = length-take-le before gs (omega (arith, r.within, r.end_is)) in
    ap (λ xs. get_or xs k 0) r.zeros
    ∙ get_or-append_right (take before gs) (replicate len 0 ++ drop r.end gs) before k 0 front low
    ∙ get_or_append_left (replicate len 0) (drop r.end gs) 0 (k - before) (omega (arith, length-replicate {A = ℕ} len 0))
    ∙ get_or-replicate len (k - before) 0 0 (omega arith)

pub run_is_zero : (gs : List ℕ) → IsZeroRun gs (longest_run 0 gs).start (longest_run 0 gs).len
run_is_zero gs =
    let found = run_found 0 gs in
    record {
      within = omega (arith, found.place, found.is_run.within, found.is_run.end_is);
      zeros = λ k low high. zeros_between gs found.before (longest_run 0 gs).len k found.is_run (omega (arith, found.place)) (omega (arith, found.place));
    }
