-- Nodes with the blocks of their pods' addresses, and namespaces (Kubernetes core v1).
use Rattle.std.specs.Prelude.{ℕ, List, [], ◌∷◌, ◌++◌, Bool, not, ◌&&◌, nat_le, Option, Some, None, is_some, option_to_list, option_and_then, unwrap_or, find, codes, if◌then◌else◌}
use Rattle.serde_json.specs.Data.{Data}
use Rattle.cl_types.specs.declared.addr.Addr.TheVariants.{V4}
use Rattle.cl_types.specs.Prefix.{PrefixData}
use Rattle.cl_types.specs.ReadText.{read_block}
use Rattle.cluster_types.specs.Node.{NodeData, NamespaceData}
use Rattle.json_fields.specs.declared.metadata.NameForm.TheVariants.{ObjectName, NamespaceName}
use Rattle.json_fields.specs.declared.refusal.ReadRefusal.{ReadRefusal}
use Rattle.json_fields.specs.declared.refusal.ReadRefusal.TheVariants.{BadShape, BadPrefix}
use Rattle.json_fields.specs.Fields.{inner}
use Rattle.json_fields.specs.Names.{metadata_faults, name_value, labels_value}
use Rattle.json_fields.specs.Shapes.{unless, in_field, object_faults, text_faults, list_faults, element_faults, text_of, texts_of}
use Rattle.object_reader.specs.Texts.{is_four, has_colon, has_no_colon}

-- ---- what every object has

unfoldable pub metadata_of : Data → Option Data
metadata_of d = inner (codes "metadata") (Some d)

unfoldable pub spec_of : Data → Option Data
spec_of d = inner (codes "spec") (Some d)

-- the faults of the metadata of an object in no namespace
unfoldable pub named_faults : Data → List ReadRefusal
named_faults d = in_field (codes "metadata") (metadata_faults ObjectName) (Some d)

unfoldable pub name_of : Data → List ℕ
name_of d = name_value ObjectName (inner (codes "name") (metadata_of d))

-- ---- nodes

unfoldable pub cidr_text_faults : Option Data → List ReadRefusal
cidr_text_faults spec = in_field (codes "podCIDR") text_faults spec

unfoldable pub cidr_texts_faults : Option Data → List ReadRefusal
cidr_texts_faults spec = in_field (codes "podCIDRs") (list_faults element_faults) spec

-- the text of `podCIDR`, and then those of `podCIDRs`
unfoldable pub cidr_texts : Option Data → List (List ℕ)
cidr_texts spec = option_to_list (text_of (inner (codes "podCIDR") spec)) ++ texts_of (inner (codes "podCIDRs") spec)

-- a block of IPv4 has a length of 8 to 30
abbrev pub is_node_block : PrefixData → Bool
is_node_block b = is_four b.base && (nat_le 8 b.len && nat_le b.len 30)

-- a block of IPv6 has a length of 16 to 126
abbrev pub is_node_block6 : PrefixData → Bool
is_node_block6 b = not (is_four b.base) && (nat_le 16 b.len && nat_le b.len 126)

abbrev pub where_block : (PrefixData → Bool) → Option PrefixData → Option PrefixData
where_block test None = None
where_block test (Some b) = if test b then Some b else None

unfoldable pub node_block : List ℕ → Option PrefixData
node_block text = where_block is_node_block (read_block text)

unfoldable pub node_block6 : List ℕ → Option PrefixData
node_block6 text = where_block is_node_block6 (read_block text)

-- the block of IPv4, which must be there
abbrev pub block_faults : Option (List ℕ) → List ReadRefusal
block_faults None = BadShape (codes "podCIDR") ∷ []
block_faults (Some text) = unless (is_some (node_block text)) BadPrefix

abbrev pub block6_faults : Option (List ℕ) → List ReadRefusal
block6_faults None = []
block6_faults (Some text) = unless (is_some (node_block6 text)) BadPrefix

-- of the texts without a colon the first counts, and of those with one the first
unfoldable pub blocks_faults : List (List ℕ) → List ReadRefusal
blocks_faults texts = block_faults (find has_no_colon texts) ++ block6_faults (find has_colon texts)

unfoldable pub node_spec_faults : Option Data → List ReadRefusal
node_spec_faults spec = object_faults spec ++ cidr_text_faults spec ++ cidr_texts_faults spec ++ blocks_faults (cidr_texts spec)

unfoldable pub node_faults : Data → List ReadRefusal
node_faults d = named_faults d ++ in_field (codes "spec") node_spec_faults (Some d)

-- what stands for a block that isn't there
abbrev pub no_node_block : PrefixData
no_node_block = record { base = V4 0; len = 8 }

unfoldable pub node_cidr : List (List ℕ) → PrefixData
node_cidr texts = unwrap_or (option_and_then node_block (find has_no_colon texts)) no_node_block

unfoldable pub node_cidr6 : List (List ℕ) → Option PrefixData
node_cidr6 texts = option_and_then node_block6 (find has_colon texts)

unfoldable pub node_value : Data → NodeData
node_value d =
    record { name = name_of d; cidr = node_cidr (cidr_texts (spec_of d)); cidr6 = node_cidr6 (cidr_texts (spec_of d)) }

-- ---- namespaces

unfoldable pub namespace_faults : Data → List ReadRefusal
namespace_faults d = in_field (codes "metadata") (metadata_faults NamespaceName) (Some d)

unfoldable pub namespace_name : Data → List ℕ
namespace_name d = name_value NamespaceName (inner (codes "name") (metadata_of d))

unfoldable pub namespace_value : Data → NamespaceData
namespace_value d = record { name = namespace_name d; labels = labels_value (inner (codes "labels") (metadata_of d)) }
