-- Addresses and blocks of addresses read of their texts, as functions. They agree with the grammar of `Reading`.
use Rattle.std.specs.Prelude.{ℕ, ◌+◌, ◌-◌, List, [], ◌∷◌, ◌++◌, length, map, replicate, Bool, ◌==◌, ◌&&◌, nat_lt, nat_le, Option, Some, None, option_map, if◌then◌else◌}
use Rattle.std.specs.Option.{option_and_then}
use Rattle.std.specs.List.{list_all, slice_split}
use Rattle.std.specs.Fmt.{decimal}
use Rattle.std.specs.Int.Digits.{number_from_digits}
use Rattle.std.specs.Char.{digit_value}
use Rattle.std.specs.Str.Parse.{digits_value}
use Rattle.cl_types.specs.declared.addr.Addr.{Addr}
use Rattle.cl_types.specs.declared.addr.Addr.TheVariants.{V4, V6}
use Rattle.cl_types.specs.declared.reading.Family.{Family}
use Rattle.cl_types.specs.declared.reading.Family.TheVariants.{Dotted, Colons}
use Rattle.cl_types.specs.Addr.{width_of}
use Rattle.cl_types.specs.Bytes.{colon, slash}
use Rattle.cl_types.specs.Prefix.{PrefixData, cleared}
use Rattle.cl_types.specs.Reading.{separator_of, base_of}
use Rattle.cl_types.specs.Text.{text_eq}

-- the value, where the test holds
abbrev pub where_true : {T : Type 0} → Bool → T → Option T
where_true test x = if test then Some x else None

-- the first value, or else the second
abbrev pub or_first : {T : Type 0} → Option T → Option T → Option T
or_first None b = b
or_first (Some x) b = Some x

-- all values, where each is there
abbrev pub all_there : {T : Type 0} → List (Option T) → Option (List T)
all_there [] = Some []
all_there (o ∷ os) = option_and_then (λ x. option_map (λ xs. x ∷ xs) (all_there os)) o

-- the number below 256 that is written so in decimal
unfoldable pub read_octet : List ℕ → Option ℕ
read_octet text =
    let n = digits_value 10 text in where_true (text_eq text (decimal n) && nat_lt n 256) n

-- the number of one to four hexadecimal digits
unfoldable pub read_hex_group : List ℕ → Option ℕ
read_hex_group text =
    where_true (list_all (λ b. nat_lt (digit_value b) 16) text && (nat_le 1 (length text) && nat_le (length text) 4)) (digits_value 16 text)

abbrev pub read_part : Family → List ℕ → Option ℕ
read_part Dotted text = read_octet text
read_part Colons text = read_hex_group text

-- the parts between separators; the empty text has none
unfoldable pub read_parts : Family → List ℕ → Option (List ℕ)
read_parts f [] = Some []
read_parts f (b ∷ text) = all_there (map (read_part f) (slice_split (λ c. c == separator_of f) (b ∷ text)))

-- the number of so many parts
unfoldable pub read_number : Family → ℕ → List ℕ → Option ℕ
read_number f count text =
    option_and_then (λ ns. where_true (length ns == count) (number_from_digits (base_of f) ns)) (read_parts f text)

-- what stands before the first two colons in a row, and what stands after them
unfoldable pub cut_gap : List ℕ → Option (List ℕ × List ℕ)
cut_gap [] = None
cut_gap (a ∷ []) = None
cut_gap (a ∷ b ∷ text) =
    if (a == colon) && (b == colon) then Some ([], text) else option_map (λ p. (a ∷ p.0, p.1)) (cut_gap (b ∷ text))

-- the number of eight groups, of which those between are zero
unfoldable pub around_gap : List ℕ → List ℕ → Option ℕ
around_gap front back =
    where_true (nat_lt (length front + length back) 8)
    (number_from_digits 65536 (front ++ (replicate (8 - (length front + length back)) 0 ++ back)))

unfoldable pub read_shortened : List ℕ → Option ℕ
read_shortened text =
    option_and_then
    (λ p. option_and_then (λ front. option_and_then (around_gap front) (read_parts Colons p.1)) (read_parts Colons p.0))
    (cut_gap text)

-- four decimals, eight groups, or groups with a gap
unfoldable pub read_address : List ℕ → Option Addr
read_address text =
    or_first (option_map V4 (read_number Dotted 4 text))
    (or_first (option_map V6 (read_number Colons 8 text)) (option_map V6 (read_shortened text)))

-- the block of an address and a length that its family has, the bits past the length cleared
abbrev pub block_of_parts : List ℕ → List ℕ → Option PrefixData
block_of_parts address len =
    option_and_then
    (λ a. option_and_then (λ n. where_true (nat_le n (width_of a)) (record { base = cleared a n; len = n })) (read_octet len))
    (read_address address)

abbrev pub block_of_halves : List (List ℕ) → Option PrefixData
block_of_halves (address ∷ len ∷ []) = block_of_parts address len
block_of_halves _ = None

-- an address, `/` and a length
unfoldable pub read_block : List ℕ → Option PrefixData
read_block text = block_of_halves (slice_split (λ b. b == slash) text)
