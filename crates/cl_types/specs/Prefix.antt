use Rattle.std.specs.Prelude.{◌≡◌, ℕ, ◌≤◌, ◌-◌, ◌*◌, ◌/◌, ◌^◌, ◌%◌, ◌==◌, ◌&&◌, Bool}
use Rattle.cl_types.specs.declared.addr.Addr.{Addr}
use Rattle.cl_types.specs.declared.addr.Addr.TheVariants.{V4, V6}
use Rattle.cl_types.specs.Addr.{width_of, number_of, with_number}

-- a block of addresses as plain data
pub record PrefixData : Type 0 where
  pub base : Addr
  pub len : ℕ

-- the length is one of the family's, and no bit past it is set
abbrev pub IsBlock : Addr → ℕ → Type 0
IsBlock (V4 n) len = (len ≤ 32) × (n % 2 ^ (32 - len) ≡ 0)
IsBlock (V6 n) len = (len ≤ 128) × (n % 2 ^ (128 - len) ≡ 0)

-- how many bits the length leaves free
abbrev pub free_bits : PrefixData → ℕ
free_bits b = width_of b.base - b.len

-- of the block's family, and the bits up to the length agree with the base
pub record Holds (b : PrefixData) (a : Addr) : Type 0 where
  pub family : width_of a ≡ width_of b.base
  pub bits : number_of a / 2 ^ free_bits b ≡ number_of b.base / 2 ^ free_bits b

-- the same as a test
abbrev pub holds : PrefixData → Addr → Bool
holds b a = (width_of a == width_of b.base) && (number_of a / 2 ^ free_bits b == number_of b.base / 2 ^ free_bits b)

-- the block of one address
abbrev pub block_of : Addr → PrefixData
block_of a = record { base = a; len = width_of a }

-- the address with the bits past the length cleared
abbrev pub cleared : Addr → ℕ → Addr
cleared a len = with_number a (number_of a / 2 ^ (width_of a - len) * 2 ^ (width_of a - len))
