-- The verdict of the policies for a pod of a node (Kubernetes NetworkPolicy v1, and Antrea's tiers, with
-- Baseline after the Kubernetes policies).
use Rattle.std.specs.Prelude.{ℕ, List, Bool, true, false, not, ◌&&◌, ◌||◌, ◌==◌, nat_le, filter, Option, Some, None, find}
use Rattle.std.specs.List.{list_any, flat_map}
use Rattle.std.specs.Option.{option_map_or}
use Rattle.cl_types.specs.declared.addr.Addr.{Addr}
use Rattle.cl_types.specs.declared.keys.Dir.TheVariants.{Ingress, Egress}
use Rattle.cl_types.specs.declared.keys.Dir.{Dir}
use Rattle.cl_types.specs.declared.keys.RuleKey.{RuleKey}
use Rattle.cl_types.specs.declared.verdict.Action.{Action}
use Rattle.cl_types.specs.declared.service.NamedPort.{NamedPort}
use Rattle.cl_types.specs.declared.service.PortName.{PortName}
use Rattle.cl_types.specs.declared.question.Question.{Question}
use Rattle.cl_types.specs.Text.{text_eq}
use Rattle.cl_types.specs.Dir.{dir_eq}
use Rattle.cl_types.specs.Proto.{proto_eq}
use Rattle.cl_types.specs.Judgement.{Judgement}
use Rattle.cl_types.specs.Prefix.{holds}
use Rattle.cl_types.specs.Service.{PortRange}
use Rattle.label_select.specs.Group.{Group}
use Rattle.cluster_types.specs.declared.policy.Block.{Block}
use Rattle.cluster_types.specs.declared.policy.Peer.{Peer}
use Rattle.cluster_types.specs.declared.policy.Peer.TheVariants as peer
use Rattle.cluster_types.specs.declared.policy.Rule.{Rule}
use Rattle.cluster_types.specs.Policy.{PolicyData, isolates}
use Rattle.cluster_types.specs.Pod.{PodData, counts, has_address}
use Rattle.cluster_types.specs.Groups.{in_group}
use Rattle.cluster_types.specs.Cluster.{ClusterData}
use Rattle.cluster_types.specs.declared.steps.Stage.{Stage}
use Rattle.cluster_types.specs.Steps.{in_stage, is_kube, allowed_by_default, verdict_of}

-- ---- who is meant

-- a block contains the addresses in it that are in no except
abbrev pub block_contains : Block → Addr → Bool
block_contains b a = holds b.cidr a && not (list_any (λ e. holds e a) b.excepts)

-- the group contains the address: some pod of it has it
abbrev pub group_contains : ClusterData → Group → Addr → Bool
group_contains c g a = list_any (λ p. in_group c g p && has_address a p) c.pods

abbrev pub peer_contains : ClusterData → Addr → Peer → Bool
peer_contains c a (peer.Group g) = group_contains c g a
peer_contains c a (peer.Block b) = block_contains b a
peer_contains c a peer.Never = false

-- a rule without peers is for every peer
abbrev pub peers_contain : ClusterData → Addr → Option (List Peer) → Bool
peers_contain c a None = true
peers_contain c a (Some peers) = list_any (peer_contains c a) peers

-- ---- which traffic is meant

-- the protocol, and a port in the range
abbrev pub service_matches : Question → PortRange → Bool
service_matches q s = proto_eq s.proto q.proto && nat_le s.lo q.port && nat_le q.port s.hi

-- a pod's port has this name and protocol, and the question's number
abbrev pub is_port : Question → PortName → NamedPort → Bool
is_port q name port = text_eq port.name name.name && proto_eq port.proto name.proto && (port.port == q.port)

-- a destination defines the name for the question's protocol and port
abbrev pub defines : Question → PortName → PodData → Bool
defines q name p = proto_eq name.proto q.proto && list_any (is_port q name) p.ports

-- a group peer of the rule contains the pod; a rule without peers is for every pod
abbrev pub peer_contains_pod : ClusterData → PodData → Peer → Bool
peer_contains_pod c p (peer.Group g) = in_group c g p
peer_contains_pod c p (peer.Block b) = false
peer_contains_pod c p peer.Never = false

abbrev pub peers_contain_pod : ClusterData → PodData → Option (List Peer) → Bool
peers_contain_pod c p None = counts p
peers_contain_pod c p (Some peers) = list_any (peer_contains_pod c p) peers

-- the destination's port has the name: on ingress the pod's own, and on egress that of a counting pod
-- with the peer's address that the rule's peers contain
abbrev pub name_matches : ClusterData → Rule → PodData → Question → PortName → Bool
name_matches c r p q name = has_at q.dir
  where
    has_at : Dir → Bool
    has_at Ingress = defines q name p
    has_at Egress = list_any (λ d. has_address q.peer d && peers_contain_pod c d r.peers && defines q name d) c.pods

-- a rule without services matches all traffic
abbrev pub services_match : ClusterData → Rule → PodData → Question → Option (List PortRange) → Bool
services_match c r p q None = true
services_match c r p q (Some services) = list_any (service_matches q) services || list_any (name_matches c r p q) r.named

-- ---- which rules are meant

-- some applied group of the policy contains the pod
abbrev pub applies : ClusterData → PolicyData → PodData → Bool
applies c policy p = list_any (λ g. in_group c g p) policy.applied

-- a rule of a policy matches the question of a pod
abbrev pub rule_matches : ClusterData → PolicyData → Rule → PodData → Question → Bool
rule_matches c policy r p q =
    dir_eq r.key.dir q.dir && applies c policy p && peers_contain c q.peer r.peers && services_match c r p q r.services

abbrev pub rule_key : Rule → RuleKey
rule_key r = r.key

abbrev pub rule_action : Rule → Action
rule_action r = r.action

-- the rules of a stage that match the question of the pod
abbrev pub rules_with : ClusterData → PodData → Question → Stage → List Rule
rules_with c p q stage =
    flat_map (λ policy. filter (λ r. in_stage stage policy.key.kind r.key && rule_matches c policy r p q) policy.rules) c.policies

-- ---- the verdict

-- a Kubernetes policy with the direction applies to the pod
abbrev pub is_isolated : ClusterData → PodData → Dir → Bool
is_isolated c p dir = list_any (λ policy. is_kube policy.key.kind && isolates policy dir && applies c policy p) c.policies

-- the three steps, over the rules that match the question
abbrev pub side_of : ClusterData → PodData → Question → Judgement
side_of c p q = verdict_of rule_key rule_action (rules_with c p q) (is_isolated c p q.dir)

-- the counting pod on the node that has the address
abbrev pub pod_on : ClusterData → List ℕ → Addr → Option PodData
pod_on c node a = find (λ p. counts p && text_eq p.node node && has_address a p) c.pods

-- the policies' verdict on one side of some traffic; an address of no counting pod of the node is allowed
abbrev pub side : ClusterData → List ℕ → Question → Judgement
side c node q = option_map_or (λ p. side_of c p q) (pod_on c node q.own) allowed_by_default
