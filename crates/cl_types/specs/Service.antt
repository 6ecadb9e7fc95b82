use Rattle.std.specs.Prelude.{ℕ}
use Rattle.cl_types.specs.declared.service.Proto.{Proto}

-- destination ports of one protocol, from lo to hi, as plain data
pub record PortRange : Type 0 where
  pub proto : Proto
  pub lo : ℕ
  pub hi : ℕ
