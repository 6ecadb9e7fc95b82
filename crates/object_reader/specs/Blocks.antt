-- Blocks of addresses without some blocks in them (Kubernetes: ipBlock).
use Rattle.std.specs.Prelude.{ℕ, List, [], ◌∷◌, ◌++◌, Bool, false, ◌&&◌, nat_le, Option, Some, None, codes}
use Rattle.std.specs.List.{list_all, filter_map}
use Rattle.serde_json.specs.Data.{Data}
use Rattle.cl_types.specs.declared.addr.Addr.TheVariants.{V4}
use Rattle.cl_types.specs.Prefix.{PrefixData, holds}
use Rattle.cl_types.specs.ReadText.{read_block}
use Rattle.cluster_types.specs.declared.policy.Block.{Block}
use Rattle.json_fields.specs.declared.refusal.ReadRefusal.{ReadRefusal}
use Rattle.json_fields.specs.declared.refusal.ReadRefusal.TheVariants.{BadPrefix}
use Rattle.json_fields.specs.Fields.{inner}
use Rattle.json_fields.specs.Shapes.{required, unless, in_field, object_faults, text_faults, list_faults, element_faults, text_value, texts_of}
use Rattle.json_fields.specs.Unknown.{other_faults}

-- all addresses of the block are in the other one
abbrev pub is_within : PrefixData → PrefixData → Bool
is_within outer b = holds outer b.base && nat_le outer.len b.len

abbrev pub is_except : PrefixData → Option PrefixData → Bool
is_except cidr None = false
is_except cidr (Some b) = is_within cidr b

abbrev pub are_excepts : Option PrefixData → List (List ℕ) → Bool
are_excepts None texts = false
are_excepts (Some cidr) texts = list_all (λ t. is_except cidr (read_block t)) texts

unfoldable pub cidr_of : Option Data → Option PrefixData
cidr_of o = read_block (text_value (inner (codes "cidr") o))

unfoldable pub except_texts : Option Data → List (List ℕ)
except_texts o = texts_of (inner (codes "except") o)

-- an object with a block, and blocks within it
unfoldable pub block_faults : Option Data → List ReadRefusal
block_faults o =
    object_faults o ++ other_faults (codes "cidr" ∷ codes "except" ∷ []) o ++ in_field (codes "cidr") (required text_faults) o
    ++ in_field (codes "except") (list_faults element_faults) o ++ unless (are_excepts (cidr_of o) (except_texts o)) BadPrefix

-- the block, or where it has a fault one of no meaning
abbrev pub block_or_none : Option PrefixData → PrefixData
block_or_none None = record { base = V4 0; len = 32 }
block_or_none (Some b) = b

unfoldable pub block_value : Option Data → Block
block_value o = record { cidr = block_or_none (cidr_of o); excepts = filter_map read_block (except_texts o) }
