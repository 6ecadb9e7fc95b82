-- Room that is lowered in steps is so in one.
use Rattle.std.proofs.Common.{ℕ, ◌+◌, Option, Some, None, arith}
use Rattle.cl_io.specs.Sink.{Lowers}

pub Lowers-none : (o : Option ℕ) → Lowers o 0 o
Lowers-none None = tt
Lowers-none (Some x) = omega arith

pub Lowers-more : (a : Option ℕ) (x : ℕ) (b : Option ℕ) (y : ℕ) (c : Option ℕ) → Lowers a x b → Lowers b y c → Lowers a (x + y) c
Lowers-more None x b y c p q = tt
Lowers-more (Some a) x None y c p q = absurd p
Lowers-more (Some a) x (Some b) y None p q = absurd q
Lowers-more (Some a) x (Some b) y (Some c) p q = omega arith
