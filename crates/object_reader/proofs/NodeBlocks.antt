-- What a node's blocks keep.
use Rattle.std.proofs.Common.{◌≡◌, ℕ, ◌≤◌, true, false}
use Rattle.cl_types.specs.declared.addr.Addr.{Addr}
use Rattle.cl_types.specs.declared.addr.Addr.TheVariants.{V4, V6}
use Rattle.cluster_types.specs.Node.{IsNodeBlock, IsNodeBlock6}
use Rattle.object_reader.specs.Texts.{is_four}

pub four_is_kept : (a : Addr) (len : ℕ) → is_four a ≡ true → 8 ≤ len → len ≤ 30 → IsNodeBlock a len
four_is_kept (V4 n) len four lo hi = (lo, hi)
four_is_kept (V6 n) len four lo hi = cc

pub six_is_kept : (a : Addr) (len : ℕ) → is_four a ≡ false → 16 ≤ len → len ≤ 126 → IsNodeBlock6 a len
six_is_kept (V4 n) len six lo hi = cc
six_is_kept (V6 n) len six lo hi = (lo, hi)
