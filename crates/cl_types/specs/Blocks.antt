-- Sets of ports and of addresses as their maximal blocks.
use Rattle.std.specs.Prelude.{◌≡◌, ℕ, ◌+◌, ◌-◌, ◌*◌, ◌/◌, ◌%◌, ◌^◌, ◌<◌, ◌≤◌, List, ◌++◌, All, bit_and}
use Rattle.std.specs.List.{Any, AllPairs}
use Rattle.cl_types.specs.declared.addr.Addr.{Addr}
use Rattle.cl_types.specs.declared.blocks.Span.{Span}
use Rattle.cl_types.specs.declared.blocks.Standing.{Standing}
use Rattle.cl_types.specs.declared.blocks.Standing.TheVariants.{Inside, Outside, Mixed}
use Rattle.cl_types.specs.declared.service.Masked.{Masked}
use Rattle.cl_types.specs.Addr.{width_of, number_of, with_number}
use Rattle.cl_types.specs.Prefix.{PrefixData, IsBlock, Holds, cleared, free_bits}

-- ---- ports (ovs-fields(7): a port and a mask)

-- a port that the block matches
abbrev pub Matches : Masked → ℕ → Type 0
Matches b port = bit_and port b.mask ≡ b.value

-- the mask has ones in its highest bits alone, and the value no bit besides
pub record IsAligned (b : Masked) : Type 0 where
  pub zeros : ℕ
  pub few : zeros ≤ 16
  pub mask : b.mask ≡ 2 ^ 16 - 2 ^ zeros
  pub value : bit_and b.value b.mask ≡ b.value

-- the aligned block of twice the size round this one
abbrev pub twice : Masked → Masked
twice b = let mask = 2 * b.mask % 2 ^ 16 in record { value = bit_and b.value mask; mask = mask }

-- the block of twice the size has a port outside the range
pub record IsWidest (lo hi : ℕ) (b : Masked) : Type 0 where
  pub port : ℕ
  pub small : port < 2 ^ 16
  pub matches : Matches (twice b) port
  pub outside : ¬ ((lo ≤ port) × (port ≤ hi))

-- a maximal block of the ports of a range: all its ports are in the range, and it is the whole or no larger
-- block round it is in the range
pub record IsMaximalPorts (lo hi : ℕ) (b : Masked) : Type 0 where
  pub form : IsAligned b
  pub inside : (port : ℕ) → port < 2 ^ 16 → Matches b port → (lo ≤ port) × (port ≤ hi)
  pub widest : 0 < b.mask → IsWidest lo hi b

-- each port of the one is below each port of the other
abbrev pub PortsPrecede : Masked → Masked → Type 0
PortsPrecede a b = (m n : ℕ) → m < 2 ^ 16 → n < 2 ^ 16 → Matches a m → Matches b n → m < n

-- ---- addresses

-- in the block and in no except
abbrev pub Remains : PrefixData → List PrefixData → Addr → Type 0
Remains p excepts a = Holds p a × All (λ e. ¬ Holds e a) excepts

-- the block one bit shorter round this one
abbrev pub shorter : PrefixData → PrefixData
shorter b = record { base = cleared b.base (b.len - 1); len = b.len - 1 }

-- the block one bit shorter has an address outside the set
pub record IsLargest (p : PrefixData) (excepts : List PrefixData) (b : PrefixData) : Type 0 where
  pub address : Addr
  pub small : number_of address < 2 ^ width_of address
  pub held : Holds (shorter b) address
  pub outside : ¬ Remains p excepts address

-- a maximal block of the addresses of a block without excepts: all its addresses remain, and it is the whole
-- family or not all addresses of the block round it remain
pub record IsMaximalBlock (p : PrefixData) (excepts : List PrefixData) (b : PrefixData) : Type 0 where
  pub form : IsBlock b.base b.len
  pub inside : (a : Addr) → Holds b a → Remains p excepts a
  pub largest : 0 < b.len → IsLargest p excepts b

-- each address of the one is before each address of the other
abbrev pub AddressesPrecede : PrefixData → PrefixData → Type 0
AddressesPrecede a b = (x y : Addr) → Holds a x → Holds b y → number_of x < number_of y

-- ---- numbers: what both are made of

-- the number has these bits above the lowest `height` bits
abbrev pub Within : Span → ℕ → Type 0
Within s n = n / 2 ^ s.height ≡ s.index

abbrev pub wider : Span → Span
wider s = record { height = s.height + 1; index = s.index / 2 }

-- some number of the span is not in the set
abbrev pub Overshoots : (ℕ → Type 0) → Span → Type 0
Overshoots P s = (n : ℕ) × Within s n × ¬ P n

-- whether the span is in the set, outside it, or neither
abbrev pub StandsAs : (ℕ → Type 0) → Span → Standing → Type 0
StandsAs P s Inside = (n : ℕ) → Within s n → P n
StandsAs P s Outside = (n : ℕ) → Within s n → ¬ P n
StandsAs P s Mixed = (0 < s.height) × Overshoots P s

abbrev pub SpansPrecede : Span → Span → Type 0
SpansPrecede a b = (m n : ℕ) → Within a m → Within b n → m < n

-- all numbers of s are numbers of the whole
abbrev pub IsSubspan : Span → Span → Type 0
IsSubspan whole s = (n : ℕ) → Within s n → Within whole n

-- the maximal spans of what the set has of the whole, ascending
pub record AreSpansOf (P : ℕ → Type 0) (whole : Span) (spans : List Span) : Type 0 where
  pub found : (n : ℕ) → Within whole n → P n → Any (λ s. Within s n) spans
  pub within : (n : ℕ) → Any (λ s. Within s n) spans → P n
  pub parts : All (IsSubspan whole) spans
  pub lower : All (λ s. s.height ≤ whole.height) spans
  pub maximal : All (λ s. Overshoots P (wider s)) spans
  pub ascending : AllPairs SpansPrecede spans

-- new is old with such spans at its end
pub record AppendsSpansOf (P : ℕ → Type 0) (whole : Span) (old new : List Span) : Type 0 where
  pub spans : List Span
  pub appended : new ≡ old ++ spans
  pub are : AreSpansOf P whole spans

-- ---- spans as blocks of ports and of addresses

abbrev pub mask_of : Span → Masked
mask_of s = record { value = s.index * 2 ^ s.height; mask = 2 ^ 16 - 2 ^ s.height }

-- a span of ports
pub record IsPortSpan (s : Span) : Type 0 where
  pub low : s.height ≤ 16
  pub fits : s.index * 2 ^ s.height < 2 ^ 16

-- the numbers of a block's addresses
abbrev pub span_of : PrefixData → Span
span_of b = record { height = free_bits b; index = number_of b.base / 2 ^ free_bits b }

-- the block with these numbers in the address's family
abbrev pub block_at : Addr → Span → PrefixData
block_at a s = record { base = with_number a (s.index * 2 ^ s.height); len = width_of a - s.height }

-- a span of numbers of so many bits
pub record FitsWidth (width : ℕ) (s : Span) : Type 0 where
  pub low : s.height ≤ width
  pub fits : s.index < 2 ^ (width - s.height)
