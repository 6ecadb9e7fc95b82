-- The functions that read texts agree with the grammar.
use Rattle.std.proofs.Common.{◌≡◌, ◌≢◌, ℕ, ◌+◌, ◌^◌, ◌<◌, ◌≤◌, List, [], ◌∷◌, ◌++◌, length, map, Bool, true, false, ◌&&◌, eqb, ltb, Option, Some, None, option_map, if◌then◌else◌, ◌↔◌, inl, inr, refl, sym, ap, ◌∙◌, subst, arith}
use Rattle.std.specs.Prelude.{nat_le, nat_lt}
use Rattle.std.specs.Option.{option_and_then, MatchOption}
use Rattle.std.specs.List.{list_all, slice_split, join_with_byte, All}
use Rattle.std.specs.Fmt.{decimal}
use Rattle.std.specs.Int.Digits.{number_from_digits}
use Rattle.std.specs.Char.{digit_value}
use Rattle.std.specs.Str.Parse.{digits_value, AllDigits}
use Rattle.std.proofs.lemmas.Bool.{and_parts, and_from, true≢false, ne_eqb}
use Rattle.std.proofs.lemmas.Bool.Decides.{nat_tests}
use Rattle.std.proofs.lemmas.Fmt.{decimal_is_IsNumeral}
use Rattle.std.proofs.lemmas.List.Splits.{join_with_byte-slice_split, slice_split_none, slice_split_at}
use Rattle.cl_types.specs.declared.addr.Addr.{Addr}
use Rattle.cl_types.specs.declared.addr.Addr.TheVariants.{V4, V6}
use Rattle.cl_types.specs.declared.reading.Family.{Family}
use Rattle.cl_types.specs.declared.reading.Family.TheVariants.{Dotted, Colons}
use Rattle.cl_types.specs.Addr.{width_of}
use Rattle.cl_types.specs.OrderLaws.{text_eq-itself, text_eq-one}
use Rattle.cl_types.specs.Prefix.{PrefixData, cleared}
use Rattle.cl_types.specs.Reading.{separator_of, IsHexGroup, IsOctet, IsPart, IsParts, IsDotted, IsFull, IsShortened, IsAddress, IsPrefix, HasNoGap, Lacks}
use Rattle.cl_types.specs.ReadText.{where_true, or_first, all_there, read_octet, read_hex_group, read_part, read_parts, read_number, cut_gap, around_gap, read_shortened, read_address, block_of_halves, read_block}
use Rattle.cl_types.specs.Text.{text_eq}
use Rattle.cl_types.proofs.Addresses.{address_unique, address_lacks, width_small}
use Rattle.cl_types.proofs.Gap.{has_gap, gap_unique, parts_gap}
use Rattle.cl_types.proofs.Parts.{part_lacks, parts_unique, part_same, digits_lack}

-- what is there has G, and nothing has where nothing is there
abbrev pub Decides : {T : Type 0} → Option T → (T → Type 0) → Type 0
Decides {T} None G = (x : T) → G x → ⊥
Decides (Some x) G = G x

decides_test : {T : Type 0} (b : Bool) (x : T) (G : T → Type 0) → (b ≡ true → G x) → (b ≡ false → (y : T) → G y → ⊥) → Decides (where_true b x) G
decides_test true x G pass fail = pass refl
decides_test false x G pass fail = fail refl

decides_then : {T U : Type 0} (o : Option T) (f : T → Option U) (G : T → Type 0) (H : U → Type 0) → Decides o G → ((x : T) → G x → Decides (f x) H) → ((u : U) → H u → (x : T) × G x) → Decides (option_and_then f o) H
decides_then None f G H d step back = λ u h. let p = back u h in d p.0 p.1
decides_then (Some x) f G H d step back = step x d

some_same : {T : Type 0} (x y : T) → Some x ≡ Some y → x ≡ y
some_same x y e = cc

pub decided : {T : Type 0} (G : T → Type 0) → ((x y : T) → G x → G y → x ≡ y) → (o : Option T) → Decides o G → (x : T) → (o ≡ Some x) ↔ G x
decided G one None d x = ((λ e. absurd (differ e)), (λ g. absurd (d x g)))
  where
    differ : None ≡ Some x → ⊥
    differ e = cc
decided G one (Some y) d x = ((λ e. subst G (some_same y x e) d), (λ g. ap Some (one y x d g)))

-- ---- parts

below_test : (n m : ℕ) → n < m → ltb n m ≡ true
below_test n m h = grind (arith, nat_tests)

below_from_test : (n m : ℕ) → ltb n m ≡ true → n < m
below_from_test n m h = grind (arith, nat_tests)

octet_decided : (t : List ℕ) → Decides (read_octet t) (IsOctet t)
unfolding read_octet
octet_decided t =
    decides_test (text_eq t (decimal (digits_value 10 t)) && nat_lt (digits_value 10 t) 256) (digits_value 10 t) (IsOctet t)
    (λ pass.
    let parts = and_parts (text_eq t (decimal (digits_value 10 t))) (nat_lt (digits_value 10 t) 256) pass in
    record { below = below_from_test (digits_value 10 t) 256 parts.1; value = text_eq-one t (decimal (digits_value 10 t)) parts.0 })
    (λ fail m o.
    let same : digits_value 10 t ≡ m = ap (digits_value 10) o.value ∙ (decimal_is_IsNumeral m (omega (arith, o.below))).1 in
    let text : text_eq t (decimal (digits_value 10 t)) ≡ true = ap (text_eq t) (ap decimal same ∙ sym o.value) ∙ text_eq-itself t in
    let small : nat_lt (digits_value 10 t) 256 ≡ true = ap (λ n. nat_lt n 256) same ∙ below_test m 256 o.below in
    true≢false (sym (and_from (text_eq t (decimal (digits_value 10 t))) (nat_lt (digits_value 10 t) 256) text small) ∙ fail))

all_digits_test : (t : List ℕ) → AllDigits 16 t → list_all (λ b. nat_lt (digit_value b) 16) t ≡ true
all_digits_test [] all = refl
all_digits_test (b ∷ t) all = and_from (nat_lt (digit_value b) 16) _ (below_test (digit_value b) 16 all.0) (all_digits_test t all.1)

all_digits_from_test : (t : List ℕ) → list_all (λ b. nat_lt (digit_value b) 16) t ≡ true → AllDigits 16 t
all_digits_from_test [] all = tt
all_digits_from_test (b ∷ t) all =
    let parts = and_parts (nat_lt (digit_value b) 16) (list_all (λ c. nat_lt (digit_value c) 16) t) all in
    (below_from_test (digit_value b) 16 parts.0, all_digits_from_test t parts.1)

length_test : (n : ℕ) → 1 ≤ n → n ≤ 4 → (nat_le 1 n && nat_le n 4) ≡ true
length_test n some short = and_from (nat_le 1 n) (nat_le n 4) (grind (arith, nat_tests)) (grind (arith, nat_tests))

length_from_test : (n : ℕ) → (nat_le 1 n && nat_le n 4) ≡ true → (1 ≤ n) × (n ≤ 4)
length_from_test n h =
    let parts = and_parts (nat_le 1 n) (nat_le n 4) h in
    (at_least 1 n parts.0, at_least n 4 parts.1)
  where
    at_least : (m k : ℕ) → nat_le m k ≡ true → m ≤ k
    at_least m k e = grind (arith, nat_tests)

abbrev digits : List ℕ → Bool
digits t = list_all (λ b. nat_lt (digit_value b) 16) t

abbrev short : List ℕ → Bool
short t = nat_le 1 (length t) && nat_le (length t) 4

hex_group_decided : (t : List ℕ) → Decides (read_hex_group t) (IsHexGroup t)
unfolding read_hex_group
hex_group_decided t =
    decides_test (digits t && short t) (digits_value 16 t) (IsHexGroup t)
    (λ pass.
    let parts = and_parts (digits t) (short t) pass in
    let size = length_from_test (length t) parts.1 in
    record { digits = all_digits_from_test t parts.0; some = size.0; short = size.1; value = refl })
    (λ fail m g. true≢false (sym (and_from (digits t) (short t) (all_digits_test t g.digits) (length_test (length t) g.some g.short)) ∙ fail))

part_decided : (f : Family) (t : List ℕ) → Decides (read_part f t) (IsPart f t)
part_decided Dotted t = octet_decided t
part_decided Colons t = hex_group_decided t

-- each text is its part
abbrev EachIs : Family → List (List ℕ) → List ℕ → Type 0
EachIs f [] [] = Unit {0}
EachIs f [] (n ∷ ns) = ⊥
EachIs f (t ∷ ts) [] = ⊥
EachIs f (t ∷ ts) (n ∷ ns) = IsPart f t n × EachIs f ts ns

each_decided : (f : Family) (ts : List (List ℕ)) → Decides (all_there (map (read_part f) ts)) (EachIs f ts)
each_decided f [] = tt
each_decided f (t ∷ ts) =
    decides_then (read_part f t) (λ n. option_map (λ ns. n ∷ ns) (all_there (map (read_part f) ts))) (IsPart f t) (EachIs f (t ∷ ts)) (part_decided f t)
    (λ n p. more n p (all_there (map (read_part f) ts)) (each_decided f ts))
    first
  where
    more : (n : ℕ) → IsPart f t n → (o : Option (List ℕ)) → Decides o (EachIs f ts) → Decides (option_map (λ ns. n ∷ ns) o) (EachIs f (t ∷ ts))
    more n p None d = none
      where
        none : (ns : List ℕ) → EachIs f (t ∷ ts) ns → ⊥
        none [] e = e
        none (m ∷ ms) e = d ms e.1
    more n p (Some ns) d = (p, d)

    first : (ns : List ℕ) → EachIs f (t ∷ ts) ns → (n : ℕ) × IsPart f t n
    first [] e = absurd e
    first (n ∷ ns) e = (n, e.0)

each_joined : (f : Family) (ts : List (List ℕ)) (ns : List ℕ) → EachIs f ts ns → IsParts f (join_with_byte (separator_of f) ts) ns
each_joined f [] [] e = refl
each_joined f [] (n ∷ ns) e = absurd e
each_joined f (t ∷ ts) [] e = absurd e
each_joined f (t ∷ []) (n ∷ []) e = e.0
each_joined f (t ∷ []) (n ∷ m ∷ ns) e = absurd e.1
each_joined f (t ∷ u ∷ us) (n ∷ []) e = absurd e.1
each_joined f (t ∷ u ∷ us) (n ∷ m ∷ ns) e =
    (t, join_with_byte (separator_of f) (u ∷ us), refl, e.0, each_joined f (u ∷ us) (m ∷ ns) e.1)

no_separator : (s : ℕ) (t : List ℕ) → Lacks s t → All (λ b. eqb b s ≡ false) t
no_separator s t lacks = λ k d h. ne_eqb _ _ (lacks k d h)

each_split : (f : Family) (t : List ℕ) (n : ℕ) (ns : List ℕ) → IsParts f t (n ∷ ns) → EachIs f (slice_split (λ b. eqb b (separator_of f)) t) (n ∷ ns)
each_split f t n [] p =
    subst (λ ts. EachIs f ts (n ∷ [])) (sym (slice_split_none (λ b. eqb b (separator_of f)) t (no_separator (separator_of f) t (part_lacks f t n p)))) (p, tt)
each_split f t n (m ∷ ns) p =
    let cut = slice_split_at (λ b. eqb b (separator_of f)) p.0 (separator_of f) p.1 (no_separator (separator_of f) p.0 (part_lacks f p.0 n p.3)) (itself (separator_of f)) in
    subst (λ ts. EachIs f ts (n ∷ m ∷ ns)) (sym (ap (slice_split (λ b. eqb b (separator_of f))) p.2 ∙ cut)) (p.3, each_split f p.1 m ns p.4)
  where
    itself : (k : ℕ) → eqb k k ≡ true
    itself k = grind (arith, nat_tests)

parts_decided : (f : Family) (t : List ℕ) → Decides (read_parts f t) (IsParts f t)
unfolding read_parts
parts_decided f [] = refl
parts_decided f (b ∷ t) = of_each (all_there (map (read_part f) (slice_split (λ c. eqb c (separator_of f)) (b ∷ t)))) (each_decided f (slice_split (λ c. eqb c (separator_of f)) (b ∷ t)))
  where
    of_each : (o : Option (List ℕ)) → Decides o (EachIs f (slice_split (λ c. eqb c (separator_of f)) (b ∷ t))) → Decides o (IsParts f (b ∷ t))
    of_each None d = none
      where
        none : (ns : List ℕ) → IsParts f (b ∷ t) ns → ⊥
        none [] p = cc
        none (n ∷ ns) p = d (n ∷ ns) (each_split f (b ∷ t) n ns p)
    of_each (Some ns) d =
        subst (λ x. IsParts f x ns) (join_with_byte-slice_split (separator_of f) (b ∷ t)) (each_joined f (slice_split (λ c. eqb c (separator_of f)) (b ∷ t)) ns d)

count_test : (n m : ℕ) → n ≡ m → eqb n m ≡ true
count_test n m h = grind (arith, nat_tests)

count_from_test : (n m : ℕ) → eqb n m ≡ true → n ≡ m
count_from_test n m h = grind (arith, nat_tests)

dotted_decided : (t : List ℕ) → Decides (read_number Dotted 4 t) (IsDotted t)
unfolding read_number
dotted_decided t =
    decides_then (read_parts Dotted t) (λ ns. where_true (eqb (length ns) 4) (number_from_digits 256 ns)) (IsParts Dotted t) (IsDotted t) (parts_decided Dotted t)
    (λ ns p. decides_test (eqb (length ns) 4) (number_from_digits 256 ns) (IsDotted t)
    (λ pass. record { octets = ns; four = count_from_test (length ns) 4 pass; parts = p; value = refl })
    (λ fail m o. true≢false (sym (count_test (length ns) 4 (ap length (parts_unique Dotted t ns o.octets p o.parts) ∙ o.four)) ∙ fail)))
    (λ m o. (o.octets, o.parts))

full_decided : (t : List ℕ) → Decides (read_number Colons 8 t) (IsFull t)
unfolding read_number
full_decided t =
    decides_then (read_parts Colons t) (λ ns. where_true (eqb (length ns) 8) (number_from_digits 65536 ns)) (IsParts Colons t) (IsFull t) (parts_decided Colons t)
    (λ ns p. decides_test (eqb (length ns) 8) (number_from_digits 65536 ns) (IsFull t)
    (λ pass. record { groups = ns; eight = count_from_test (length ns) 8 pass; parts = p; value = refl })
    (λ fail m o. true≢false (sym (count_test (length ns) 8 (ap length (parts_unique Colons t ns o.groups p o.parts) ∙ o.eight)) ∙ fail)))
    (λ m o. (o.groups, o.parts))

-- ---- the gap

-- cut at the first two colons in a row
pub record IsCut (t : List ℕ) (p : List ℕ × List ℕ) : Type 0 where
  pub whole : t ≡ p.0 ++ 58 ∷ 58 ∷ p.1
  pub first : HasNoGap (p.0 ++ 58 ∷ [])

gap_cut : (t : List ℕ) → MatchOption (cut_gap t) (HasNoGap t) (IsCut t)
unfolding cut_gap
gap_cut [] = tt
gap_cut (a ∷ []) = tt
gap_cut (a ∷ b ∷ t) = by_test (eqb a 58 && eqb b 58) refl (cut_gap (b ∷ t)) (gap_cut (b ∷ t))
  where
    apart : (eqb a 58 && eqb b 58) ≡ false → a ≡ 58 → b ≢ 58
    apart fail e f = true≢false (sym (and_from (eqb a 58) (eqb b 58) (count_test a 58 e) (count_test b 58 f)) ∙ fail)

    later : (a ≡ 58 → b ≢ 58) → (o : Option (List ℕ × List ℕ)) → MatchOption o (HasNoGap (b ∷ t)) (IsCut (b ∷ t)) → MatchOption (option_map (λ p. (a ∷ p.0, p.1)) o) (HasNoGap (a ∷ b ∷ t)) (IsCut (a ∷ b ∷ t))
    later fail None d = (fail, d)
    later fail (Some p) d = record { whole = ap (λ x. a ∷ x) d.whole; first = before p.0 d.whole d.first }
      where
        before : (f : List ℕ) → b ∷ t ≡ f ++ 58 ∷ 58 ∷ p.1 → HasNoGap (f ++ 58 ∷ []) → HasNoGap (a ∷ (f ++ 58 ∷ []))
        before [] e h = (let here : b ≡ 58 = cc in (λ is _. fail is here), tt)
        before (x ∷ []) e h = (let here : b ≡ x = cc in (λ is f. fail is (here ∙ f)), h)
        before (x ∷ y ∷ xs) e h = (let here : b ≡ x = cc in (λ is f. fail is (here ∙ f)), h)

    by_test : (test : Bool) → (eqb a 58 && eqb b 58) ≡ test → (o : Option (List ℕ × List ℕ)) → MatchOption o (HasNoGap (b ∷ t)) (IsCut (b ∷ t))
        → MatchOption (if test then Some ([], t) else option_map (λ p. (a ∷ p.0, p.1)) o) (HasNoGap (a ∷ b ∷ t)) (IsCut (a ∷ b ∷ t))
    by_test true is o d =
        let parts = and_parts (eqb a 58) (eqb b 58) is in
        let first = count_from_test a 58 parts.0 in
        let second = count_from_test b 58 parts.1 in
        record { whole = (λ i. first i ∷ second i ∷ t); first = tt }
    by_test false is o d = later (apart is) o d

-- the parts of a shortened text on both sides of the cut
sides : (t : List ℕ) (p : List ℕ × List ℕ) (n : ℕ) → IsCut t p → (o : IsShortened t n) → IsParts Colons p.0 o.front × IsParts Colons p.1 o.back
sides t p n cut o =
    let same = gap_unique o.front_text p.0 o.back_text p.1 (parts_gap o.front_text o.front o.front_parts) cut.first (sym o.whole ∙ cut.whole) in
    (subst (λ (x : List ℕ). IsParts Colons x o.front) same.0 o.front_parts, subst (λ (x : List ℕ). IsParts Colons x o.back) same.1 o.back_parts)

shortened_decided : (t : List ℕ) → Decides (read_shortened t) (IsShortened t)
unfolding read_shortened around_gap
shortened_decided t = of_cut (cut_gap t) (gap_cut t)
  where
    round : (p : List ℕ × List ℕ) → IsCut t p → (fs : List ℕ) → IsParts Colons p.0 fs → (bs : List ℕ) → IsParts Colons p.1 bs → Decides (around_gap fs bs) (IsShortened t)
    round p cut fs f bs b =
        decides_test (nat_lt (length fs + length bs) 8) _ (IsShortened t)
        (λ pass. record {
          front = fs;
          back = bs;
          front_text = p.0;
          back_text = p.1;
          gap = below_from_test (length fs + length bs) 8 pass;
          whole = cut.whole;
          front_parts = f;
          back_parts = b;
          value = refl;
        })
        (λ fail n o.
        let parts = sides t p n cut o in
        let fewer : length fs + length bs < 8 = omega (arith, o.gap, ap length (parts_unique Colons p.0 fs o.front f parts.0), ap length (parts_unique Colons p.1 bs o.back b parts.1)) in
        true≢false (sym (below_test (length fs + length bs) 8 fewer) ∙ fail))

    of_cut : (o : Option (List ℕ × List ℕ)) → MatchOption o (HasNoGap t) (IsCut t)
        → Decides (option_and_then (λ p. option_and_then (λ fs. option_and_then (around_gap fs) (read_parts Colons p.1)) (read_parts Colons p.0)) o) (IsShortened t)
    of_cut None d = (λ n o. has_gap o.front_text o.back_text (subst HasNoGap o.whole d))
    of_cut (Some p) cut =
        decides_then (read_parts Colons p.0) (λ fs. option_and_then (around_gap fs) (read_parts Colons p.1)) (IsParts Colons p.0) (IsShortened t) (parts_decided Colons p.0)
        (λ fs f. decides_then (read_parts Colons p.1) (around_gap fs) (IsParts Colons p.1) (IsShortened t) (parts_decided Colons p.1)
        (λ bs b. round p cut fs f bs b)
        (λ n o. (o.back, (sides t p n cut o).1)))
        (λ n o. (o.front, (sides t p n cut o).0))

-- ---- addresses

pub address_decided : (t : List ℕ) → Decides (read_address t) (IsAddress t)
unfolding read_address
address_decided t = pick (read_number Dotted 4 t) (read_number Colons 8 t) (read_shortened t) (dotted_decided t) (full_decided t) (shortened_decided t)
  where
    pick : (d f s : Option ℕ) → Decides d (IsDotted t) → Decides f (IsFull t) → Decides s (IsShortened t) → Decides (or_first (option_map V4 d) (or_first (option_map V6 f) (option_map V6 s))) (IsAddress t)
    pick (Some n) f s x y z = x
    pick None (Some n) s x y z = inl y
    pick None None (Some n) x y z = inr z
    pick None None None x y z = none
      where
        none : (a : Addr) → IsAddress t a → ⊥
        none (V4 n) g = x n g
        none (V6 n) (inl g) = y n g
        none (V6 n) (inr g) = z n g

-- the function finds an address exactly where the text is a form of it
pub address_read : (t : List ℕ) (a : Addr) → (read_address t ≡ Some a) ↔ IsAddress t a
address_read t = decided (IsAddress t) (address_unique t) (read_address t) (address_decided t)

-- ---- blocks

octet_read : (t : List ℕ) (n : ℕ) → (read_octet t ≡ Some n) ↔ IsOctet t n
octet_read t = decided (IsOctet t) (part_same Dotted t) (read_octet t) (octet_decided t)

at_most_test : (m n : ℕ) → m ≤ n → nat_le m n ≡ true
at_most_test m n h = grind (arith, nat_tests)

at_most_from_test : (m n : ℕ) → nat_le m n ≡ true → m ≤ n
at_most_from_test m n h = grind (arith, nat_tests)

-- the text of a block is cut into the address and the length
halves : (t : List ℕ) (b : PrefixData) (p : IsPrefix t b) → slice_split (λ c. eqb c 47) t ≡ p.address_text ∷ decimal b.len ∷ []
halves t b p =
    let address = no_separator 47 p.address_text (address_lacks p.address_text p.address p.form) in
    let small : b.len < 2 ^ 64 = omega (arith, p.len, width_small p.address) in
    let len = no_separator 47 (decimal b.len) (digits_lack 10 47 (decimal b.len) (omega arith) ((decimal_is_IsNumeral b.len small).0.1)) in
    ap (slice_split (λ c. eqb c 47)) p.whole
    ∙ slice_split_at (λ c. eqb c 47) p.address_text 47 (decimal b.len) address refl
    ∙ ap (λ ts. p.address_text ∷ ts) (slice_split_none (λ c. eqb c 47) (decimal b.len) len)

abbrev of_length : Addr → Option ℕ → Option PrefixData
of_length a ol = option_and_then (λ n. where_true (nat_le n (width_of a)) (record { base = cleared a n; len = n })) ol

read_from_prefix : (t : List ℕ) (b : PrefixData) → IsPrefix t b → read_block t ≡ Some b
unfolding read_block
read_from_prefix t b p =
    ap block_of_halves (halves t b p)
    ∙ ap (option_and_then (λ a. of_length a (read_octet (decimal b.len)))) ((address_read p.address_text p.address).1 p.form)
    ∙ ap (of_length p.address) ((octet_read (decimal b.len) b.len).1 (record { below = omega (arith, p.len, width_small p.address); value = refl }))
    ∙ ap (λ test. where_true test (let c : PrefixData = record { base = cleared p.address b.len; len = b.len } in c)) (at_most_test b.len (width_of p.address) p.len)
    ∙ ap Some (let base = sym p.base in (λ i. record { base = base i; len = b.len }))

prefix_of_parts : (a l : List ℕ) (b : PrefixData) (oa : Option Addr) (ol : Option ℕ) → Decides oa (IsAddress a) → Decides ol (IsOctet l) → option_and_then (λ x. of_length x ol) oa ≡ Some b → IsPrefix (a ++ 47 ∷ l) b
prefix_of_parts a l b None ol da dl e = cc
prefix_of_parts a l b (Some x) None da dl e = cc
prefix_of_parts a l b (Some x) (Some n) da dl e = by_test (nat_le n (width_of x)) refl e
  where
    by_test : (test : Bool) → nat_le n (width_of x) ≡ test → where_true test (let c : PrefixData = record { base = cleared x n; len = n } in c) ≡ Some b → IsPrefix (a ++ 47 ∷ l) b
    by_test true is f =
        let same : (let c : PrefixData = record { base = cleared x n; len = n } in c) ≡ b = some_same _ _ f in
        subst (IsPrefix (a ++ 47 ∷ l)) same (record {
          address = x;
          address_text = a;
          whole = ap (λ z. a ++ 47 ∷ z) dl.value;
          form = da;
          len = at_most_from_test n (width_of x) is;
          base = refl;
        })
    by_test false is f = cc

prefix_from_halves : (ts : List (List ℕ)) (b : PrefixData) → block_of_halves ts ≡ Some b → IsPrefix (join_with_byte 47 ts) b
prefix_from_halves [] b e = cc
prefix_from_halves (a ∷ []) b e = cc
prefix_from_halves (a ∷ l ∷ []) b e = prefix_of_parts a l b (read_address a) (read_octet l) (address_decided a) (octet_decided l) e
prefix_from_halves (a ∷ l ∷ m ∷ ts) b e = cc

prefix_from_read : (t : List ℕ) (b : PrefixData) → read_block t ≡ Some b → IsPrefix t b
unfolding read_block
prefix_from_read t b e =
    subst (λ x. IsPrefix x b) (join_with_byte-slice_split 47 t) (prefix_from_halves (slice_split (λ c. eqb c 47) t) b e)

-- the function finds a block exactly where the text is a form of it
pub block_read : (t : List ℕ) (b : PrefixData) → (read_block t ≡ Some b) ↔ IsPrefix t b
block_read t b = (prefix_from_read t b, read_from_prefix t b)
