-- An address as a number of its family's width, and the order of addresses.
use Rattle.std.specs.Prelude.{ℕ, Bool, false, ◌==◌}
use Rattle.std.specs.declared.cmp.Ordering.{Ordering}
use Rattle.std.specs.Ordering.{ordering_then, nat_cmp}
use Rattle.std.specs.Cmp.{IsTotalOrder}
use Rattle.std.proofs.lemmas.Cmp.{on_total, then_total, nat_cmp_total}
use Rattle.cl_types.specs.declared.addr.Addr.{Addr}
use Rattle.cl_types.specs.declared.addr.Addr.TheVariants.{V4, V6}

-- how many bits an address of this family has
abbrev pub width_of : Addr → ℕ
width_of (V4 n) = 32
width_of (V6 n) = 128

abbrev pub number_of : Addr → ℕ
number_of (V4 n) = n
number_of (V6 n) = n

-- the address of the same family with this number
abbrev pub with_number : Addr → ℕ → Addr
with_number (V4 m) n = V4 n
with_number (V6 m) n = V6 n

-- two addresses are of one family and have one number
abbrev pub addr_eq : Addr → Addr → Bool
addr_eq (V4 a) (V4 b) = a == b
addr_eq (V6 a) (V6 b) = a == b
addr_eq _ _ = false

-- IPv4 before IPv6, then by number
abbrev pub addr_order : Addr → Addr → Ordering
addr_order a b = ordering_then (nat_cmp (width_of a) (width_of b)) (nat_cmp (number_of a) (number_of b))

pub addr_order_total : IsTotalOrder addr_order
addr_order_total = then_total (on_total width_of nat_cmp_total) (on_total number_of nat_cmp_total)
