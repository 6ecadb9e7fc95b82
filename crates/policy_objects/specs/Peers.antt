-- Whom a rule is for, and to whom a policy applies (Kubernetes NetworkPolicy v1: NetworkPolicyPeer; Antrea:
-- from, to and appliedTo).
use Rattle.std.specs.Prelude.{ℕ, List, [], ◌∷◌, ◌++◌, Bool, true, false, not, ◌&&◌, Option, Some, None, is_some, codes, if◌then◌else◌}
use Rattle.std.specs.List.{filter_map}
use Rattle.serde_json.specs.Data.{Data}
use Rattle.cl_types.specs.declared.keys.PolicyKind.{PolicyKind}
use Rattle.cl_types.specs.declared.keys.PolicyKind.TheVariants.{Cluster, Antrea, Kube}
use Rattle.cluster_types.specs.declared.policy.Block.{Block}
use Rattle.cluster_types.specs.declared.policy.Peer.{Peer}
use Rattle.cluster_types.specs.declared.policy.Peer.TheVariants as peer
use Rattle.label_select.specs.declared.group.Scope.TheVariants.{Namespace, Namespaces}
use Rattle.label_select.specs.Group.{Group}
use Rattle.json_fields.specs.declared.refusal.ReadRefusal.{ReadRefusal}
use Rattle.json_fields.specs.declared.refusal.ReadRefusal.TheVariants.{BadShape}
use Rattle.json_fields.specs.Fields.{inner}
use Rattle.json_fields.specs.Selectors.{selector_value}
use Rattle.json_fields.specs.Shapes.{unless, in_field, object_faults, text_faults, text_of}
use Rattle.json_fields.specs.Unknown.{other_field, unsupported}
use Rattle.object_reader.specs.Blocks.{block_faults, block_value}
use Rattle.object_reader.specs.Groups.{selectors_faults, has_selector, has_namespace_selector, pod_selector, cluster_group}

-- ---- groups of pods

-- all pods of a namespace
abbrev pub namespace_pods : List ℕ → Group
namespace_pods namespace = record { scope = Namespace namespace; pods = selector_value None }

-- all pods of the cluster
abbrev pub all_pods : Group
all_pods = record { scope = Namespaces (selector_value None); pods = selector_value None }

-- a policy's own pods, those of its namespace or all of the cluster, that a selector of pods selects
unfoldable pub own_pods : Group → Option Data → Group
own_pods own o = record { scope = own.scope; pods = pod_selector o }

-- the pods that a selector of pods, of namespaces or both select; without one of namespaces they are own pods
unfoldable pub group_of : Group → Option Data → Group
group_of own o = if has_namespace_selector o then cluster_group o else own_pods own o

-- ---- references to cluster groups

-- only a ClusterNetworkPolicy refers to cluster groups
abbrev pub may_refer : PolicyKind → Bool
may_refer Cluster = true
may_refer Antrea = false
may_refer Kube = false

unfoldable pub has_reference : Data → Bool
has_reference d = is_some (inner (codes "group") (Some d))

unfoldable pub reference_of : Data → Option (List ℕ)
reference_of d = text_of (inner (codes "group") (Some d))

unfoldable pub beside_reference : Data → Option (List ℕ)
beside_reference d = other_field (codes "group" ∷ []) (Some d)

unfoldable pub group_name_faults : Data → List ReadRefusal
group_name_faults d = in_field (codes "group") text_faults (Some d)

-- a reference stands alone
unfoldable pub reference_faults : Data → List ReadRefusal
reference_faults d = unless (not (is_some (beside_reference d))) (BadShape []) ++ group_name_faults d

-- ---- a peer

unfoldable pub has_block : Data → Bool
has_block d = is_some (inner (codes "ipBlock") (Some d))

-- a field that no peer has
unfoldable pub beside_peer : Data → Option (List ℕ)
beside_peer d = other_field (codes "podSelector" ∷ codes "namespaceSelector" ∷ codes "ipBlock" ∷ []) (Some d)

-- selectors or a block. Beside a field that isn't supported none need be there
abbrev pub is_body : Bool → Bool → Bool → Bool
is_body true true other = false
is_body true false other = true
is_body false true other = true
is_body false false other = other

unfoldable pub has_body : Data → Bool
has_body d = is_body (has_selector (Some d)) (has_block d) (is_some (beside_peer d))

unfoldable pub block_field_faults : Data → List ReadRefusal
block_field_faults d = in_field (codes "ipBlock") block_faults (Some d)

unfoldable pub ip_block_faults : Data → List ReadRefusal
ip_block_faults d = if has_block d then block_field_faults d else []

unfoldable pub plain_peer_faults : Data → List ReadRefusal
plain_peer_faults d =
    object_faults (Some d) ++ unless (has_body d) (BadShape []) ++ unsupported (beside_peer d)
    ++ selectors_faults (Some d) ++ ip_block_faults d

unfoldable pub peer_faults : PolicyKind → Data → List ReadRefusal
peer_faults kind d = if may_refer kind && has_reference d then reference_faults d else plain_peer_faults d

unfoldable pub the_block : Data → Block
the_block d = block_value (inner (codes "ipBlock") (Some d))

unfoldable pub plain_peer : Group → Data → Peer
plain_peer own d = if has_block d then peer.Block (the_block d) else peer.Group (group_of own (Some d))

-- a peer that is no reference
unfoldable pub peer_of : Group → Data → Option Peer
peer_of own d = if has_reference d then None else Some (plain_peer own d)

-- a rule without an entry is for every peer; one with references alone has an empty list
abbrev pub peers_value : Group → List Data → Option (List Peer)
peers_value own [] = None
peers_value own (d ∷ ds) = Some (filter_map (peer_of own) (d ∷ ds))

abbrev pub references_value : List Data → List (List ℕ)
references_value ds = filter_map reference_of ds
