-- Which kinds of objects are read, and what an object of each says (Kubernetes: apiVersion and kind; watch events).
use Rattle.std.specs.Prelude.{ℕ, List, [], Bool, true, false, ◌||◌, ◌==◌, Option, Some, None, Result, Ok, Err, is_some, take, position, codes, if◌then◌else◌}
use Rattle.std.specs.Option.{option_map_or}
use Rattle.serde_json.specs.Data.{Data}
use Rattle.serde_json.specs.Find.{as_str}
use Rattle.cl_types.specs.declared.keys.PolicyKind.TheVariants as policy
use Rattle.cl_types.specs.Bytes.{slash}
use Rattle.cl_types.specs.Text.{text_eq}
use Rattle.cluster_types.specs.declared.change.Change.TheVariants.{Put, Remove}
use Rattle.cluster_types.specs.declared.change.Object.TheVariants as object
use Rattle.cluster_types.specs.declared.change.ObjectKey.TheVariants as key
use Rattle.cluster_types.specs.declared.references.RefItem.{RefItem}
use Rattle.cluster_types.specs.declared.references.RefItem.TheVariants as item
use Rattle.json_fields.specs.declared.metadata.NameForm.TheVariants.{ObjectName, NamespaceName}
use Rattle.json_fields.specs.declared.refusal.ReadRefusal.{ReadRefusal}
use Rattle.json_fields.specs.declared.refusal.ReadRefusal.TheVariants.{BadShape}
use Rattle.json_fields.specs.Names.{metadata_faults, namespaced_faults}
use Rattle.json_fields.specs.Shapes.{in_field}
use Rattle.object_reader.specs.Nodes.{name_of, node_faults, node_value, namespace_faults, namespace_name, namespace_value as namespace_object}
use Rattle.object_reader.specs.Egresses.{egress_faults, egress_item}
use Rattle.object_reader.specs.Groups.{group_faults, group_value}
use Rattle.pod_reader.specs.Pods.{pod_faults, pod_key, pod_value}
use Rattle.object_reader.specs.Pools.{pool_faults, pool_value}
use Rattle.object_reader.specs.Tiers.{tier_faults, tier_value}
use Rattle.policy_objects.specs.Policies.{antrea_policy_faults, antrea_policy_value, cluster_key, cluster_policy_faults, cluster_policy_value, key_in_namespace, kube_policy_faults, kube_policy_value}
use Rattle.policy_reader.specs.declared.kinds.ObjectKind.{ObjectKind}
use Rattle.policy_reader.specs.declared.kinds.ObjectKind.TheVariants as kind

-- ---- which kinds are read

-- kinds of Kubernetes' core group
unfoldable pub core_kind : List ℕ → Option ObjectKind
core_kind name =
    if text_eq name (codes "Node") then Some kind.Node
    else (if text_eq name (codes "Namespace") then Some kind.Namespace
    else (if text_eq name (codes "Pod") then Some kind.Pod else None))

unfoldable pub network_kind : List ℕ → Option ObjectKind
network_kind name = if text_eq name (codes "NetworkPolicy") then Some kind.KubePolicy else None

unfoldable pub antrea_policy_kind : List ℕ → Option ObjectKind
antrea_policy_kind name =
    if text_eq name (codes "NetworkPolicy") then Some kind.AntreaPolicy
    else (if text_eq name (codes "ClusterNetworkPolicy") then Some kind.ClusterPolicy else None)

unfoldable pub antrea_other_kind : List ℕ → Option ObjectKind
antrea_other_kind name =
    if text_eq name (codes "Tier") then Some kind.Tier
    else (if text_eq name (codes "Egress") then Some kind.Egress
    else (if text_eq name (codes "ClusterGroup") then Some kind.ClusterGroup
    else (if text_eq name (codes "ExternalIPPool") then Some kind.Pool else None)))

abbrev pub or_else : Option ObjectKind → Option ObjectKind → Option ObjectKind
or_else None other = other
or_else (Some k) other = Some k

unfoldable pub antrea_kind : List ℕ → Option ObjectKind
antrea_kind name = or_else (antrea_policy_kind name) (antrea_other_kind name)

-- the kind with this name in a group of kinds, in whatever version
unfoldable pub kind_in : List ℕ → List ℕ → Option ObjectKind
kind_in group name =
    if text_eq group [] then core_kind name
    else (if text_eq group (codes "networking.k8s.io") then network_kind name
    else (if text_eq group (codes "crd.antrea.io") then antrea_kind name else None))

-- some group has a kind with this name that is read
unfoldable pub is_kind_name : List ℕ → Bool
is_kind_name name = is_some (core_kind name) || is_some (network_kind name) || is_some (antrea_kind name)

-- the text before the first `/`, empty where there is none
abbrev pub group_of : List ℕ → List ℕ
group_of version = option_map_or (λ i. take i version) (position (λ b. b == slash) version) []

abbrev pub kind_of_version : List ℕ → Option (List ℕ) → Result (Option ObjectKind) ReadRefusal
kind_of_version name (Some version) = Ok (kind_in (group_of version) name)
kind_of_version name None = if is_kind_name name then Err (BadShape (codes "apiVersion")) else Ok None

-- the kind of an object by the name of its kind and its apiVersion; none where it isn't read
unfoldable pub kind_of : List ℕ → Option Data → Result (Option ObjectKind) ReadRefusal
kind_of name None = Ok (core_kind name)
kind_of name (Some version) = kind_of_version name (as_str version)

-- ---- what an object says

abbrev pub faults_of : ObjectKind → Data → List ReadRefusal
faults_of kind.Node d = node_faults d
faults_of kind.Namespace d = namespace_faults d
faults_of kind.Pod d = pod_faults d
faults_of kind.Tier d = tier_faults d
faults_of kind.KubePolicy d = kube_policy_faults d
faults_of kind.AntreaPolicy d = antrea_policy_faults d
faults_of kind.ClusterPolicy d = cluster_policy_faults d
faults_of kind.Egress d = egress_faults d
faults_of kind.ClusterGroup d = group_faults d
faults_of kind.Pool d = pool_faults d

abbrev pub value_of : ObjectKind → Data → RefItem
value_of kind.Node d = item.Plain (Put (object.Node (node_value d)))
value_of kind.Namespace d = item.Plain (Put (object.Namespace (namespace_object d)))
value_of kind.Pod d = item.Plain (Put (object.Pod (pod_value d)))
value_of kind.Tier d = item.Plain (Put (object.Tier (tier_value d)))
value_of kind.KubePolicy d = item.Plain (Put (object.Policy (kube_policy_value d)))
value_of kind.AntreaPolicy d = item.Plain (Put (object.Policy (antrea_policy_value d)))
value_of kind.ClusterPolicy d = item.PutPolicy (cluster_policy_value d)
value_of kind.Egress d = egress_item d
value_of kind.ClusterGroup d = item.PutGroup (group_value d)
value_of kind.Pool d = item.PutPool (pool_value d)

-- ---- an object that was deleted: its metadata alone is read

-- in which form the name stands, and whether the object is in a namespace
abbrev pub is_namespaced : ObjectKind → Bool
is_namespaced kind.Pod = true
is_namespaced kind.KubePolicy = true
is_namespaced kind.AntreaPolicy = true
is_namespaced _ = false

abbrev pub named_in : Bool → Option Data → List ReadRefusal
named_in true meta = namespaced_faults meta
named_in false meta = metadata_faults ObjectName meta

unfoldable pub removed_faults : ObjectKind → Data → List ReadRefusal
removed_faults kind.Namespace d = in_field (codes "metadata") (metadata_faults NamespaceName) (Some d)
removed_faults k d = in_field (codes "metadata") (named_in (is_namespaced k)) (Some d)

abbrev pub removed_value : ObjectKind → Data → RefItem
removed_value kind.Node d = item.Plain (Remove (key.Node (name_of d)))
removed_value kind.Namespace d = item.Plain (Remove (key.Namespace (namespace_name d)))
removed_value kind.Pod d = item.Plain (Remove (key.Pod (pod_key d)))
removed_value kind.Tier d = item.Plain (Remove (key.Tier (name_of d)))
removed_value kind.KubePolicy d = item.Plain (Remove (key.Policy (key_in_namespace policy.Kube d)))
removed_value kind.AntreaPolicy d = item.Plain (Remove (key.Policy (key_in_namespace policy.Antrea d)))
removed_value kind.ClusterPolicy d = item.Plain (Remove (key.Policy (cluster_key d)))
removed_value kind.Egress d = item.Plain (Remove (key.Egress (name_of d)))
removed_value kind.ClusterGroup d = item.RemoveGroup (name_of d)
removed_value kind.Pool d = item.RemovePool (name_of d)
