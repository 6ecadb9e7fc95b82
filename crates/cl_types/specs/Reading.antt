-- The texts that are read as addresses and prefixes (RFC 4291's forms for IPv6, without zones and without a
-- dotted tail; no leading zeros in decimals).
use Rattle.std.specs.Prelude.{◌≡◌, ℕ, ◌+◌, ◌-◌, ◌^◌, ◌<◌, ◌≤◌, List, [], ◌∷◌, ◌++◌, length, replicate, ◌⊎◌, codes, All, ◌≢◌}
use Rattle.std.specs.Fmt.{decimal}
use Rattle.std.specs.Int.Digits.{number_from_digits, number_from_digits_after}
use Rattle.std.specs.Str.Parse.{AllDigits, digits_value}
use Rattle.cl_types.specs.declared.addr.Addr.{Addr}
use Rattle.cl_types.specs.declared.addr.Addr.TheVariants.{V4, V6}
use Rattle.cl_types.specs.declared.reading.Family.{Family}
use Rattle.cl_types.specs.declared.reading.Parts.{Parts}
use Rattle.cl_types.specs.declared.reading.Family.TheVariants.{Dotted, Colons}
use Rattle.cl_types.specs.Addr.{width_of}
use Rattle.cl_types.specs.Bytes.{dot, colon}
use Rattle.cl_types.specs.Prefix.{PrefixData, cleared}

-- a dot or a colon
abbrev pub separator_of : Family → ℕ
separator_of Dotted = dot
separator_of Colons = colon

-- how many values a part has
abbrev pub base_of : Family → ℕ
base_of Dotted = 256
base_of Colons = 65536

-- one to four hexadecimal digits, of either case
pub record IsHexGroup (text : List ℕ) (n : ℕ) : Type 0 where
  pub digits : AllDigits 16 text
  pub some : 1 ≤ length text
  pub short : length text ≤ 4
  pub value : n ≡ digits_value 16 text

-- a decimal number below 256 without leading zeros
pub record IsOctet (text : List ℕ) (n : ℕ) : Type 0 where
  pub below : n < 256
  pub value : text ≡ decimal n

abbrev pub IsPart : Family → List ℕ → ℕ → Type 0
IsPart Dotted text n = IsOctet text n
IsPart Colons text n = IsHexGroup text n

-- the text is these parts, with the separator between each two
abbrev pub IsParts : Family → List ℕ → List ℕ → Type 0
IsParts f text [] = text ≡ []
IsParts f text (n ∷ []) = IsPart f text n
IsParts f text (n ∷ m ∷ ns) =
    (first : List ℕ) × (rest : List ℕ) × (text ≡ first ++ (separator_of f ∷ rest)) × IsPart f first n × IsParts f rest (m ∷ ns)

-- eight groups
pub record IsFull (text : List ℕ) (n : ℕ) : Type 0 where
  pub groups : List ℕ
  pub eight : length groups ≡ 8
  pub parts : IsParts Colons text groups
  pub value : n ≡ number_from_digits 65536 groups

-- groups, `::`, and groups: `::` stands for the groups of zero that make them eight, at least one
pub record IsShortened (text : List ℕ) (n : ℕ) : Type 0 where
  pub front : List ℕ
  pub back : List ℕ
  pub front_text : List ℕ
  pub back_text : List ℕ
  pub gap : length front + length back < 8
  pub whole : text ≡ front_text ++ (codes "::" ++ back_text)
  pub front_parts : IsParts Colons front_text front
  pub back_parts : IsParts Colons back_text back
  pub value : n ≡ number_from_digits 65536 (front ++ (replicate (8 - (length front + length back)) 0 ++ back))

-- four decimals
pub record IsDotted (text : List ℕ) (n : ℕ) : Type 0 where
  pub octets : List ℕ
  pub four : length octets ≡ 4
  pub parts : IsParts Dotted text octets
  pub value : n ≡ number_from_digits 256 octets

-- the text is a form of the address
abbrev pub IsAddress : List ℕ → Addr → Type 0
IsAddress text (V4 n) = IsDotted text n
IsAddress text (V6 n) = IsFull text n ⊎ IsShortened text n

-- an address, `/` and a length; bits past the length are cleared
pub record IsPrefix (text : List ℕ) (block : PrefixData) : Type 0 where
  pub address : Addr
  pub address_text : List ℕ
  pub whole : text ≡ address_text ++ (codes "/" ++ decimal block.len)
  pub form : IsAddress address_text address
  pub len : block.len ≤ width_of address
  pub base : block.base ≡ cleared address block.len

-- no byte of the text is this one
abbrev pub Lacks : ℕ → List ℕ → Type 0
Lacks byte text = All (λ b. b ≢ byte) text

-- nowhere two colons in a row
abbrev pub HasNoGap : List ℕ → Type 0
HasNoGap [] = Unit {0}
HasNoGap (a ∷ []) = Unit {0}
HasNoGap (a ∷ b ∷ text) = (a ≡ colon → b ≢ colon) × HasNoGap (b ∷ text)

-- the number of some parts
pub record IsNumber (f : Family) (parts : Parts) (ns : List ℕ) : Type 0 where
  pub count : parts.count ≡ length ns
  pub few : parts.count ≤ 8
  pub number : parts.number ≡ number_from_digits (base_of f) ns
  pub below : parts.number < base_of f ^ parts.count

-- the parts before, followed by those of the text
pub record Continues (f : Family) (before : Parts) (text : List ℕ) (parts : Parts) : Type 0 where
  pub ns : List ℕ
  pub some : 1 ≤ length ns
  pub form : IsParts f text ns
  pub count : parts.count ≡ before.count + length ns
  pub few : parts.count ≤ 8
  pub number : parts.number ≡ number_from_digits_after (base_of f) before.number ns
  pub below : parts.number < base_of f ^ parts.count
