-- Directions of traffic.
use Rattle.std.specs.Prelude.{ℕ, Bool, ◌==◌}
use Rattle.cl_types.specs.declared.keys.Dir.{Dir}
use Rattle.cl_types.specs.declared.keys.Dir.TheVariants.{Ingress, Egress}

-- Ingress, then Egress
abbrev pub dir_place : Dir → ℕ
dir_place Ingress = 0
dir_place Egress = 1

abbrev pub dir_eq : Dir → Dir → Bool
dir_eq a b = dir_place a == dir_place b
