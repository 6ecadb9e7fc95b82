-- What the three maps that an agent holds put in force at its node: the complete rules with what they match, the
-- addresses that are isolated, the Egresses of pods' addresses, and the addresses that need marks (this project's own
-- words for what Antrea's agents do).
use Rattle.std.specs.Prelude.{◌≡◌, ◌↔◌, ℕ, List, [], ◌∷◌, ◌++◌, Bool, true, false, ◌&&◌, filter, find, map, Option, Some, None, unwrap_or, if◌then◌else◌}
use Rattle.std.specs.List.{flat_map, AllPairs, Contains}
use Rattle.cl_types.specs.declared.addr.Addr.{Addr}
use Rattle.cl_types.specs.declared.keys.Dir.{Dir}
use Rattle.cl_types.specs.declared.keys.RuleKey.{RuleKey}
use Rattle.cl_types.specs.declared.service.NamedPort.{NamedPort}
use Rattle.cl_types.specs.declared.service.PortName.{PortName}
use Rattle.cl_types.specs.Addr.{addr_order}
use Rattle.cl_types.specs.Ascending.{sorted_by, sorted_set}
use Rattle.cl_types.specs.Blocks.{AddressesPrecede, IsMaximalBlock}
use Rattle.cl_types.specs.Prefix.{PrefixData, block_of}
use Rattle.cl_types.specs.Proto.{proto_eq}
use Rattle.cl_types.specs.RuleOrder.{rule_order}
use Rattle.cl_types.specs.Text.{text_eq}
use Rattle.label_select.specs.Group.{Group}
use Rattle.cluster_types.specs.declared.policy.Block.{Block}
use Rattle.cluster_types.specs.Steps.{is_kube}
use Rattle.watch_streams.specs.declared.message.StreamObject.{StreamObject}
use Rattle.watch_streams.specs.declared.net.NetPeers.{NetPeers}
use Rattle.watch_streams.specs.declared.net.NetRule.{NetRule}
use Rattle.watch_streams.specs.declared.rule_changes.Choice.{Choice}
use Rattle.watch_streams.specs.declared.rule_changes.Choice.TheVariants.{Plain, Here, There}
use Rattle.watch_streams.specs.declared.rule_changes.ChoiceChange.{ChoiceChange}
use Rattle.watch_streams.specs.declared.rule_changes.IsolationChange.{IsolationChange}
use Rattle.watch_streams.specs.declared.rule_changes.MarkChange.{MarkChange}
use Rattle.watch_streams.specs.declared.rule_changes.Resolved.{Resolved}
use Rattle.watch_streams.specs.declared.rule_changes.RuleParts.{RuleParts}
use Rattle.watch_streams.specs.HeldEvaluation.{HeldMaps, held_egresses, held_group, held_member, held_policies, is_at, is_complete, resolving_groups, resolving_map}
use Rattle.watch_streams.specs.Net.{NetPolicyData, NetEgressData, MemberData, net_isolates}
use Rattle.watch_streams.specs.PartOrders.{block_order, resolved_order}

-- ---- members of groups

-- the members of those of the groups that are held
abbrev pub members_in : List StreamObject → List Group → List MemberData
members_in held groups = flat_map (λ g. unwrap_or (held_group held g) []) groups

abbrev pub member_address : MemberData → Addr
member_address m = m.address

-- their addresses, ascending, each once
abbrev pub addresses_in : List StreamObject → List Group → List Addr
addresses_in held groups = sorted_set addr_order (map member_address (members_in held groups))

-- ---- what a rule matches

-- the largest blocks of the addresses that a block contains, ascending
pub record AreLargestBlocks (b : Block) (blocks : List PrefixData) : Type 0 where
  pub exact : (x : PrefixData) → (IsMaximalBlock b.cidr b.excepts x ↔ Contains blocks x)
  pub ascending : AllPairs AddressesPrecede blocks

-- those of several blocks, one after the other
abbrev pub AreBlocksOf : List Block → List PrefixData → Type 0
AreBlocksOf [] blocks = blocks ≡ []
AreBlocksOf (b ∷ bs) blocks =
    (own : List PrefixData) × (others : List PrefixData) × (blocks ≡ own ++ others) × AreLargestBlocks b own × AreBlocksOf bs others

-- Each address of a held member of the peers' groups as a block, and the largest blocks of their blocks; ascending, each
-- once.
pub record ArePeers (h : HeldMaps) (peers : NetPeers) (blocks : List PrefixData) : Type 0 where
  pub own : List PrefixData
  pub are_own : AreBlocksOf peers.blocks own
  pub all : blocks ≡ sorted_set block_order (map block_of (addresses_in h.addresses peers.groups) ++ own)

-- a rule without peers is for every peer
abbrev pub ArePeersOf : HeldMaps → Option NetPeers → Option (List PrefixData) → Type 0
ArePeersOf h None None = Unit {0}
ArePeersOf h (Some peers) (Some blocks) = ArePeers h peers blocks
ArePeersOf h peers blocks = ⊥

-- the port has the name
abbrev pub has_name : PortName → NamedPort → Bool
has_name name port = text_eq port.name name.name && proto_eq port.proto name.proto

abbrev pub port_at : Addr → NamedPort → Resolved
port_at a port = record { address = a; proto = port.proto; port = port.port }

-- the ports of a member that have one of the names
abbrev pub ports_named : List PortName → MemberData → List Resolved
ports_named names m = flat_map (λ name. map (port_at m.address) (filter (has_name name) m.ports)) names

-- those of the held members of the groups at which a rule's named ports are looked up
abbrev pub resolved_ports : HeldMaps → NetPolicyData → NetRule → List Resolved
resolved_ports h p r =
    sorted_set resolved_order (flat_map (ports_named r.named) (members_in (resolving_map h r.key.dir) (resolving_groups p r r.key.dir)))

-- what a rule of a held policy matches
pub record IsParts (h : HeldMaps) (p : NetPolicyData) (r : NetRule) (parts : RuleParts) : Type 0 where
  pub key : parts.key ≡ r.key
  pub action : parts.action ≡ r.action
  pub pods : parts.pods ≡ addresses_in h.applied p.applied
  pub peers : ArePeersOf h r.peers parts.peers
  pub services : parts.services ≡ r.services
  pub resolved : parts.resolved ≡ resolved_ports h p r

-- ---- rules

-- a rule with the policy that has it
pub record HeldRule : Type 0 where
  pub policy : NetPolicyData
  pub rule : NetRule

abbrev pub held_rule_key : HeldRule → RuleKey
held_rule_key x = x.rule.key

abbrev pub rules_of : NetPolicyData → List HeldRule
rules_of p = map (λ r. record { policy = p; rule = r }) p.rules

-- the rules of all held policies, in the rule order
abbrev pub held_rules : HeldMaps → List HeldRule
held_rules h = sorted_by held_rule_key rule_order (flat_map rules_of (held_policies h))

-- those that are complete
abbrev pub complete_rules : HeldMaps → List HeldRule
complete_rules h = filter (λ x. is_complete h x.policy x.rule) (held_rules h)

-- what these rules match, one after the other
abbrev pub ArePartsOf : HeldMaps → List HeldRule → List RuleParts → Type 0
ArePartsOf h [] [] = Unit {0}
ArePartsOf h (x ∷ xs) (parts ∷ rest) = IsParts h x.policy x.rule parts × ArePartsOf h xs rest
ArePartsOf h xs parts = ⊥

-- the rules in force, in the rule order
abbrev pub AreRulesInForce : HeldMaps → List RuleParts → Type 0
AreRulesInForce h parts = ArePartsOf h (complete_rules h) parts

-- ---- isolation

-- the groups that a Kubernetes policy isolates in the direction
abbrev pub isolating_groups : Dir → NetPolicyData → List Group
isolating_groups dir p = if is_kube p.key.kind && net_isolates p dir then p.applied else []

-- the addresses that held Kubernetes policies isolate in the direction
abbrev pub isolated_addresses : HeldMaps → Dir → List Addr
isolated_addresses h dir = addresses_in h.applied (flat_map (isolating_groups dir) (held_policies h))

-- ---- Egresses

abbrev pub egress_group : NetEgressData → Group
egress_group e = e.applied

-- the Egress's group has a member with the address
abbrev pub selects_address : HeldMaps → Addr → NetEgressData → Bool
selects_address h a e = held_member (is_at a) h.applied e.applied

abbrev pub chosen : List ℕ → Option NetEgressData → Choice
chosen node None = Plain
chosen node (Some e) = if text_eq e.node node then Here e.address else There e.node e.address

-- By the first, in the order of names, of the held Egresses whose group has the address.
abbrev pub held_choice : List ℕ → HeldMaps → Addr → Choice
held_choice node h a = chosen node (find (selects_address h a) (held_egresses h))

-- the addresses of which some Egress's group has a member
abbrev pub egress_pods : HeldMaps → List Addr
egress_pods h = addresses_in h.applied (map egress_group (held_egresses h))

abbrev pub egress_address : NetEgressData → Addr
egress_address e = e.address

-- the addresses of the held Egresses of which the node is the egress node
abbrev pub held_marks : List ℕ → HeldMaps → List Addr
held_marks node h = sorted_set addr_order (map egress_address (filter (λ e. text_eq e.node node) (held_egresses h)))
