-- Who is in a group (Kubernetes NetworkPolicy v1: pod and namespace selectors; Antrea's address groups).
use Rattle.std.specs.Prelude.{ℕ, List, [], Bool, map, if◌then◌else◌}
use Rattle.std.specs.Ordering.{is_eq}
use Rattle.cl_types.specs.declared.addr.Addr.{Addr}
use Rattle.cl_types.specs.declared.keys.PodKey.{PodKey}
use Rattle.cl_types.specs.declared.service.NamedPort.{NamedPort}
use Rattle.cl_types.specs.Addr.{addr_order}
use Rattle.cl_types.specs.Ascending.{sorted_by}
use Rattle.cl_types.specs.RuleOrder.{pod_order}
use Rattle.cl_types.specs.Text.{text_eq}
use Rattle.label_select.specs.Group.{Group}
use Rattle.cluster_types.specs.Pod.{PodData}
use Rattle.cluster_types.specs.Cluster.{ClusterData}
use Rattle.cluster_types.specs.Groups.{in_group, members_by}

-- an address of a pod, with what is told of the pod
pub record MemberData : Type 0 where
  pub address : Addr
  pub node : List ℕ
  pub pod : PodKey
  pub ports : List NamedPort

abbrev pub member_of : PodData → Addr → MemberData
member_of p a = record { address = a; node = p.node; pod = p.key; ports = p.ports }

-- the member is an address of the pod
abbrev pub is_of : PodKey → MemberData → Bool
is_of pod m = is_eq (pod_order m.pod pod)

-- the member is on the node
abbrev pub is_member_on : List ℕ → MemberData → Bool
is_member_on node m = text_eq m.node node

abbrev pub by_address : List MemberData → List MemberData
by_address = sorted_by (λ (m : MemberData). m.address) addr_order

-- the pod's members, where the group contains it
abbrev pub members_if : ClusterData → Group → PodData → List MemberData
members_if c g p = if in_group c g p then map (member_of p) p.addresses else []

-- the members of the group at the cluster, by address
unfoldable pub members_of : ClusterData → Group → List MemberData
members_of c g = by_address (members_by member_of c g)
