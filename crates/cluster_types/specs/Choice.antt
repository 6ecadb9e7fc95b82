-- With which address a pod's traffic leaves the cluster, and by which node (Antrea's Egress; which Egress counts is
-- this project's own).
use Rattle.std.specs.Prelude.{ℕ, List, Bool, ◌&&◌, Option, Some, None, filter, find, map, if◌then◌else◌}
use Rattle.std.specs.List.{list_any}
use Rattle.cl_types.specs.declared.addr.Addr.{Addr}
use Rattle.cl_types.specs.Addr.{addr_order}
use Rattle.cl_types.specs.Ascending.{sorted_set}
use Rattle.cl_types.specs.Text.{text_eq}
use Rattle.cluster_types.specs.Cluster.{ClusterData}
use Rattle.cluster_types.specs.Egress.{EgressData}
use Rattle.cluster_types.specs.Groups.{in_group}
use Rattle.cluster_types.specs.Node.{NodeData}
use Rattle.cluster_types.specs.Pod.{PodData, has_address}

-- as any traffic, with an address by the pod's own node, or with an address by another node
pub data Choice : Type 0 where
  plain : Choice
  here : Addr → Choice
  there : List ℕ → Addr → Choice

abbrev pub is_listed : ClusterData → List ℕ → Bool
is_listed c name = list_any (λ (n : NodeData). text_eq n.name name) c.nodes

-- an Egress counts where its node is listed
abbrev pub egress_counts : ClusterData → EgressData → Bool
egress_counts c e = is_listed c e.node

-- the Egress selects a pod of the node that has the address
abbrev pub selects_at : ClusterData → List ℕ → Addr → EgressData → Bool
selects_at c node a e = list_any (λ (p : PodData). in_group c e.applied p && text_eq p.node node && has_address a p) c.pods

-- of the counting Egresses that do so the one with the least name: Egresses stand by name
abbrev pub egress_at : ClusterData → List ℕ → Addr → Option EgressData
egress_at c node a = find (λ (e : EgressData). egress_counts c e && selects_at c node a e) c.egresses

abbrev pub chosen : List ℕ → Option EgressData → Choice
chosen node None = plain
chosen node (Some e) = if text_eq e.node node then here e.address else there e.node e.address

-- how the traffic of the pod at an address of the node leaves
abbrev pub choice_at : ClusterData → List ℕ → Addr → Choice
choice_at c node a = chosen node (egress_at c node a)

-- the addresses for which the node needs marks: those of the counting Egresses of which it is the egress node
abbrev pub marked_addresses : ClusterData → List ℕ → List Addr
marked_addresses c node =
    sorted_set addr_order (map (λ (e : EgressData). e.address) (filter (λ (e : EgressData). egress_counts c e && text_eq e.node node) c.egresses))
