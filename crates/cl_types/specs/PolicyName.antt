-- A policy's name as plain data, and what its type keeps.
use Rattle.std.specs.Prelude.{◌≡◌, ◌≢◌, ◌↔◌, ℕ, List, [], All}
use Rattle.cl_types.specs.Bytes.{slash}
use Rattle.cl_types.specs.declared.keys.PolicyKind.{PolicyKind}
use Rattle.cl_types.specs.declared.keys.PolicyKind.TheVariants.{Cluster}

pub record PolicyName : Type 0 where
  pub kind : PolicyKind
  pub namespace : List ℕ
  pub name : List ℕ

-- no byte of the text is `/`
abbrev pub HasNoSlash : List ℕ → Type 0
HasNoSlash text = All (λ b. b ≢ slash) text

-- neither text has a `/`, and the namespace is empty for a ClusterNetworkPolicy and for no other kind
pub record IsPolicyName (kind : PolicyKind) (namespace name : List ℕ) : Type 0 where
  pub namespace_form : HasNoSlash namespace
  pub name_form : HasNoSlash name
  pub cluster_wide : (namespace ≡ []) ↔ (kind ≡ Cluster)
