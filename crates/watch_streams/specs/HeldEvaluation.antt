-- The verdict of what an agent holds: that of the policies, over rules whose groups are all held (Antrea's agents, which
-- keep a rule back until its groups have come).
use Rattle.std.specs.Prelude.{List, [], ◌∷◌, Bool, true, false, not, ◌&&◌, ◌||◌, filter, Option, Some, None, is_some}
use Rattle.std.specs.List.{list_any, list_all, flat_map}
use Rattle.cl_types.specs.declared.addr.Addr.{Addr}
use Rattle.cl_types.specs.declared.keys.Dir.{Dir}
use Rattle.cl_types.specs.declared.keys.Dir.TheVariants.{Ingress, Egress}
use Rattle.cl_types.specs.declared.keys.RuleKey.{RuleKey}
use Rattle.cl_types.specs.declared.verdict.Action.{Action}
use Rattle.cl_types.specs.declared.service.PortName.{PortName}
use Rattle.cl_types.specs.declared.question.Question.{Question}
use Rattle.cl_types.specs.Ascending.{found}
use Rattle.cl_types.specs.Addr.{addr_eq}
use Rattle.cl_types.specs.Dir.{dir_eq}
use Rattle.cl_types.specs.Proto.{proto_eq}
use Rattle.cl_types.specs.Judgement.{Judgement}
use Rattle.cl_types.specs.Service.{PortRange}
use Rattle.label_select.specs.Group.{Group}
use Rattle.label_select.specs.Written.{group_text}
use Rattle.cluster_types.specs.Evaluation.{block_contains, service_matches, is_port}
use Rattle.cluster_types.specs.declared.steps.Stage.{Stage}
use Rattle.cluster_types.specs.Steps.{in_stage, is_kube, verdict_of}
use Rattle.watch_streams.specs.declared.message.StreamObject.{StreamObject}
use Rattle.watch_streams.specs.declared.message.StreamObject.TheVariants as object
use Rattle.watch_streams.specs.declared.net.NetPeers.{NetPeers}
use Rattle.watch_streams.specs.declared.net.NetRule.{NetRule}
use Rattle.watch_streams.specs.Names.{at_text}
use Rattle.watch_streams.specs.Net.{NetPolicyData, NetEgressData, MemberData, net_isolates}
use Rattle.watch_streams.specs.Projection.{all_pods, has_names}

-- the three maps that an agent holds
pub record HeldMaps : Type 0 where
  pub policies : List StreamObject
  pub addresses : List StreamObject
  pub applied : List StreamObject

-- ---- groups

abbrev pub group_in : Option StreamObject → Option (List MemberData)
group_in (Some (object.Group g members)) = Some members
group_in other = None

-- the members of a group that is held
abbrev pub held_group : List StreamObject → Group → Option (List MemberData)
held_group held g = group_in (found (at_text (group_text g)) held)

abbrev pub is_held : List StreamObject → Group → Bool
is_held held g = is_some (held_group held g)

abbrev pub some_member : (MemberData → Bool) → Option (List MemberData) → Bool
some_member p None = false
some_member p (Some members) = list_any p members

-- some of the held members of a group passes
abbrev pub held_member : (MemberData → Bool) → List StreamObject → Group → Bool
held_member p held g = some_member p (held_group held g)

abbrev pub is_at : Addr → MemberData → Bool
is_at a m = addr_eq m.address a

-- ---- rules

abbrev pub groups_of : Option NetPeers → List Group
groups_of None = []
groups_of (Some peers) = peers.groups

-- The groups among whose members a rule's named ports are looked up: on ingress those to which its policy applies, on
-- egress its peers, or all pods where it has no peers.
abbrev pub resolving_groups : NetPolicyData → NetRule → Dir → List Group
resolving_groups p r Ingress = p.applied
resolving_groups p r Egress = egress_groups r.peers
  where
    egress_groups : Option NetPeers → List Group
    egress_groups None = all_pods ∷ []
    egress_groups (Some peers) = peers.groups

-- the map in which these are held
abbrev pub resolving_map : HeldMaps → Dir → List StreamObject
resolving_map h Ingress = h.applied
resolving_map h Egress = h.addresses

abbrev pub resolves : HeldMaps → NetPolicyData → NetRule → Bool
resolves h p r = list_all (is_held (resolving_map h r.key.dir)) (resolving_groups p r r.key.dir)

-- all groups that the rule needs are held
abbrev pub is_complete : HeldMaps → NetPolicyData → NetRule → Bool
is_complete h p r =
    list_all (is_held h.addresses) (groups_of r.peers) && list_all (is_held h.applied) p.applied
    && (not (has_names r.named) || resolves h p r)

abbrev pub held_peers_contain : HeldMaps → Addr → Option NetPeers → Bool
held_peers_contain h a None = true
held_peers_contain h a (Some peers) = list_any (held_member (is_at a) h.addresses) peers.groups || list_any (λ b. block_contains b a) peers.blocks

-- the destination of the traffic of a question
abbrev pub destination : Question → Dir → Addr
destination q Ingress = q.own
destination q Egress = q.peer

-- the member is the destination, and its port has the name and the question's number
abbrev pub member_defines : Question → PortName → MemberData → Bool
member_defines q name m = is_at (destination q q.dir) m && proto_eq name.proto q.proto && list_any (is_port q name) m.ports

abbrev pub held_name_matches : HeldMaps → NetPolicyData → NetRule → Question → PortName → Bool
held_name_matches h p r q name = list_any (held_member (member_defines q name) (resolving_map h q.dir)) (resolving_groups p r q.dir)

abbrev pub held_services_match : HeldMaps → NetPolicyData → NetRule → Question → Option (List PortRange) → Bool
held_services_match h p r q None = true
held_services_match h p r q (Some services) = list_any (service_matches q) services || list_any (held_name_matches h p r q) r.named

-- a rule of a held policy matches the question
abbrev pub held_rule_matches : HeldMaps → Question → NetPolicyData → NetRule → Bool
held_rule_matches h q p r =
    is_complete h p r && dir_eq r.key.dir q.dir && list_any (held_member (is_at q.own) h.applied) p.applied
    && held_peers_contain h q.peer r.peers && held_services_match h p r q r.services

-- ---- the verdict

abbrev pub policy_in : StreamObject → List NetPolicyData
policy_in (object.Policy p) = p ∷ []
policy_in (object.Egress e) = []
policy_in (object.Group g members) = []

abbrev pub held_policies : HeldMaps → List NetPolicyData
held_policies h = flat_map policy_in h.policies

-- the Egresses of the map of policies
abbrev pub egress_in : StreamObject → List NetEgressData
egress_in (object.Policy p) = []
egress_in (object.Egress e) = e ∷ []
egress_in (object.Group g members) = []

abbrev pub held_egresses : HeldMaps → List NetEgressData
held_egresses maps = flat_map egress_in maps.policies

abbrev pub net_rule_key : NetRule → RuleKey
net_rule_key r = r.key

abbrev pub net_rule_action : NetRule → Action
net_rule_action r = r.action

-- the rules of a stage that match the question
abbrev pub held_rules_with : HeldMaps → Question → Stage → List NetRule
held_rules_with h q stage =
    flat_map (λ p. filter (λ r. in_stage stage p.key.kind r.key && held_rule_matches h q p r) p.rules) (held_policies h)

-- a held Kubernetes policy with the direction applies to the question's own address
abbrev pub held_isolated : HeldMaps → Question → Bool
held_isolated h q =
    list_any (λ p. is_kube p.key.kind && net_isolates p q.dir && list_any (held_member (is_at q.own) h.applied) p.applied) (held_policies h)

-- the three steps, over the complete rules that match the question
abbrev pub held_side : HeldMaps → Question → Judgement
held_side h q = verdict_of net_rule_key net_rule_action (held_rules_with h q) (held_isolated h q)
