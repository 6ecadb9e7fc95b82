-- Texts of addresses and blocks by their family.
use Rattle.std.specs.Prelude.{ℕ, List, Bool, true, false, not, ◌==◌, Option, Some, None, if◌then◌else◌}
use Rattle.std.specs.List.{list_any}
use Rattle.cl_types.specs.declared.addr.Addr.{Addr}
use Rattle.cl_types.specs.declared.addr.Addr.TheVariants.{V4, V6}
use Rattle.cl_types.specs.Bytes.{colon}
use Rattle.cl_types.specs.ReadText.{read_address}

abbrev pub is_four : Addr → Bool
is_four (V4 n) = true
is_four (V6 n) = false

abbrev pub where_four : Option Addr → Option Addr
where_four None = None
where_four (Some a) = if is_four a then Some a else None

abbrev pub where_six : Option Addr → Option Addr
where_six None = None
where_six (Some a) = if is_four a then None else Some a

-- the IPv4 address that the text is a form of
unfoldable pub four_of : List ℕ → Option Addr
four_of text = where_four (read_address text)

-- the IPv6 address that the text is a form of
unfoldable pub six_of : List ℕ → Option Addr
six_of text = where_six (read_address text)

-- a text with a colon is none of IPv4
abbrev pub has_colon : List ℕ → Bool
has_colon text = list_any (λ b. b == colon) text

abbrev pub has_no_colon : List ℕ → Bool
has_no_colon text = not (has_colon text)
