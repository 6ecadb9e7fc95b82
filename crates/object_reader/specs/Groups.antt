-- Groups of pods by two selectors (Antrea: appliedTo and peers; Kubernetes: peers), and cluster groups.
use Rattle.std.specs.Prelude.{ℕ, List, [], ◌∷◌, ◌++◌, map, Bool, true, false, ◌||◌, Option, Some, is_some, codes, if◌then◌else◌}
use Rattle.serde_json.specs.Data.{Data}
use Rattle.cluster_types.specs.declared.policy.Block.{Block}
use Rattle.cluster_types.specs.declared.references.ClusterGroup.{ClusterGroup}
use Rattle.cluster_types.specs.declared.references.GroupBody.{GroupBody}
use Rattle.cluster_types.specs.declared.references.GroupBody.TheVariants.{Selected, Blocks, Children}
use Rattle.label_select.specs.declared.group.Scope.TheVariants.{Namespaces}
use Rattle.label_select.specs.Group.{Group}
use Rattle.label_select.specs.Selection.{Selection}
use Rattle.json_fields.specs.declared.refusal.ReadRefusal.{ReadRefusal}
use Rattle.json_fields.specs.Fields.{inner}
use Rattle.json_fields.specs.Selectors.{selector_faults, selector_value}
use Rattle.json_fields.specs.Shapes.{shape_fault, in_field, object_faults, list_faults, element_faults, text_value, items_of}
use Rattle.json_fields.specs.Unknown.{other_field, unsupported}
use Rattle.object_reader.specs.Blocks.{block_faults, block_value}
use Rattle.object_reader.specs.Nodes.{named_faults, name_of, spec_of}

-- ---- two selectors

unfoldable pub pod_selector_faults : Option Data → List ReadRefusal
pod_selector_faults o = in_field (codes "podSelector") selector_faults o

unfoldable pub namespace_selector_faults : Option Data → List ReadRefusal
namespace_selector_faults o = in_field (codes "namespaceSelector") selector_faults o

unfoldable pub selectors_faults : Option Data → List ReadRefusal
selectors_faults o = pod_selector_faults o ++ namespace_selector_faults o

unfoldable pub has_pod_selector : Option Data → Bool
has_pod_selector o = is_some (inner (codes "podSelector") o)

unfoldable pub has_namespace_selector : Option Data → Bool
has_namespace_selector o = is_some (inner (codes "namespaceSelector") o)

unfoldable pub has_selector : Option Data → Bool
has_selector o = has_pod_selector o || has_namespace_selector o

unfoldable pub pod_selector : Option Data → Selection
pod_selector o = selector_value (inner (codes "podSelector") o)

unfoldable pub namespace_selector : Option Data → Selection
namespace_selector o = selector_value (inner (codes "namespaceSelector") o)

-- the pods that both selectors select; one that is absent selects everything
unfoldable pub cluster_group : Option Data → Group
cluster_group o = record { scope = Namespaces (namespace_selector o); pods = pod_selector o }

-- ---- cluster groups

unfoldable pub has_blocks : Option Data → Bool
has_blocks spec = is_some (inner (codes "ipBlocks") spec)

unfoldable pub has_children : Option Data → Bool
has_children spec = is_some (inner (codes "childGroups") spec)

-- a field that is no body of a group
unfoldable pub other_body : Option Data → Option (List ℕ)
other_body spec = other_field (codes "podSelector" ∷ codes "namespaceSelector" ∷ codes "ipBlocks" ∷ codes "childGroups" ∷ []) spec

-- exactly one body: selectors, blocks or children. Beside a field that isn't supported none need be there
abbrev pub bodies_faults : Bool → Bool → Bool → Bool → List ReadRefusal
bodies_faults true false false other = []
bodies_faults false true false other = []
bodies_faults false false true other = []
bodies_faults false false false true = []
bodies_faults _ _ _ other = shape_fault

unfoldable pub body_faults : Option Data → List ReadRefusal
body_faults spec = bodies_faults (has_selector spec) (has_blocks spec) (has_children spec) (is_some (other_body spec))

abbrev pub element_block_faults : Data → List ReadRefusal
element_block_faults d = block_faults (Some d)

abbrev pub element_block : Data → Block
element_block d = block_value (Some d)

unfoldable pub ip_blocks_faults : Option Data → List ReadRefusal
ip_blocks_faults spec = in_field (codes "ipBlocks") (list_faults element_block_faults) spec

unfoldable pub child_groups_faults : Option Data → List ReadRefusal
child_groups_faults spec = in_field (codes "childGroups") (list_faults element_faults) spec

unfoldable pub group_spec_faults : Option Data → List ReadRefusal
group_spec_faults spec =
    object_faults spec ++ body_faults spec ++ unsupported (other_body spec) ++ selectors_faults spec
    ++ ip_blocks_faults spec ++ child_groups_faults spec

unfoldable pub group_faults : Data → List ReadRefusal
group_faults d = named_faults d ++ in_field (codes "spec") group_spec_faults (Some d)

unfoldable pub ip_blocks : Option Data → List Block
ip_blocks spec = map element_block (items_of (inner (codes "ipBlocks") spec))

abbrev pub element_text : Data → List ℕ
element_text d = text_value (Some d)

unfoldable pub child_groups : Option Data → List (List ℕ)
child_groups spec = map element_text (items_of (inner (codes "childGroups") spec))

unfoldable pub group_body : Option Data → GroupBody
group_body spec =
    if has_blocks spec then Blocks (ip_blocks spec)
    else (if has_children spec then Children (child_groups spec) else Selected (cluster_group spec))

unfoldable pub group_value : Data → ClusterGroup
group_value d = record { name = name_of d; body = group_body (spec_of d) }
