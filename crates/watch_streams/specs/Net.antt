-- What agents are told of policies, Egresses and groups, as plain data (Antrea's controlplane objects, in
-- which groups stand in place of selectors).
use Rattle.std.specs.Prelude.{◌≡◌, ◌≢◌, ℕ, List, [], length, Bool, true}
use Rattle.std.specs.List.{AllByRecursion}
use Rattle.std.specs.declared.cmp.Ordering.{Ordering}
use Rattle.std.specs.Ordering.{ordering_then, nat_cmp}
use Rattle.std.specs.Cmp.Lexicographic.{slice_cmp}
use Rattle.cl_types.specs.declared.addr.Addr.{Addr}
use Rattle.cl_types.specs.declared.keys.Dir.{Dir}
use Rattle.cl_types.specs.declared.keys.Dir.TheVariants.{Ingress, Egress}
use Rattle.cl_types.specs.declared.keys.PolicyKind.TheVariants.{Kube}
use Rattle.cl_types.specs.declared.verdict.Action.TheVariants.{Allow, Pass}
use Rattle.cl_types.specs.declared.service.NamedPort.{NamedPort}
use Rattle.cl_types.specs.Addr.{addr_order}
use Rattle.cl_types.specs.Ascending.{Ascends, sorted_set}
use Rattle.cl_types.specs.PolicyName.{PolicyName}
use Rattle.cl_types.specs.RuleOrder.{rule_order}
use Rattle.label_select.specs.Group.{Group}
use Rattle.cluster_types.specs.Pod.{port_order}
use Rattle.watch_streams.specs.declared.net.NetRule.{NetRule}
use Rattle.cluster_types.specs.Tier.{baseline_tier, kube_tier}

-- ---- policies

pub record NetPolicyData : Type 0 where
  pub key : PolicyName
  pub applied : List Group
  pub isolates_in : Bool
  pub isolates_out : Bool
  pub rules : List NetRule

-- whether the policy isolates, in a direction, those to which it applies
abbrev pub net_isolates : NetPolicyData → Dir → Bool
net_isolates p Ingress = p.isolates_in
net_isolates p Egress = p.isolates_out

-- a rule of a Kubernetes policy only allows, in a direction in which the policy isolates
pub record IsNetKubeRule (p : NetPolicyData) (r : NetRule) : Type 0 where
  pub tier : r.key.tier ≡ kube_tier
  pub priority : r.key.priority ≡ 0
  pub action : r.action ≡ Allow
  pub direction : net_isolates p r.key.dir ≡ true

pub record IsNetKubePolicy (p : NetPolicyData) : Type 0 where
  pub one_group : length p.applied ≡ 1
  pub rules : AllByRecursion (IsNetKubeRule p) p.rules

-- Its rules are its own and stand in the rule order, none twice; it applies to some group; no rule of Baseline
-- passes.
pub record IsNetPolicy (p : NetPolicyData) : Type 0 where
  pub keyed : AllByRecursion (λ (r : NetRule). r.key.policy ≡ p.key) p.rules
  pub in_order : Ascends (λ (r : NetRule). r.key) rule_order p.rules
  pub applies : p.applied ≢ []
  pub baseline : AllByRecursion (λ (r : NetRule). r.key.tier ≡ baseline_tier → r.action ≢ Pass) p.rules
  pub kubernetes : p.key.kind ≡ Kube → IsNetKubePolicy p

-- ---- Egresses

pub record NetEgressData : Type 0 where
  pub name : List ℕ
  pub address : Addr
  pub node : List ℕ
  pub applied : Group

-- ---- members of groups

-- an address, and the ports that its pod names
pub record MemberData : Type 0 where
  pub address : Addr
  pub ports : List NamedPort

-- by name and protocol, then by number
abbrev pub numbered_port_order : NamedPort → NamedPort → Ordering
numbered_port_order a b = ordering_then (port_order a b) (nat_cmp a.port b.port)

-- by address, then by ports
abbrev pub member_order : MemberData → MemberData → Ordering
member_order a b = ordering_then (addr_order a.address b.address) (slice_cmp numbered_port_order a.ports b.ports)

-- members in ascending order, none twice
abbrev pub ascending_members : List MemberData → List MemberData
ascending_members = sorted_set member_order
