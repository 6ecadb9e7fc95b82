-- The rules of a policy (Kubernetes NetworkPolicy v1: ingress and egress rules; Antrea: rules with an action).
use Rattle.std.specs.Prelude.{ℕ, ◌+◌, ◌^◌, List, [], ◌∷◌, ◌++◌, map, take, Bool, Option, Some, is_some, unwrap_or, codes}
use Rattle.serde_json.specs.Data.{Data}
use Rattle.cl_types.specs.declared.keys.Dir.{Dir}
use Rattle.cl_types.specs.declared.keys.Dir.TheVariants.{Ingress, Egress}
use Rattle.cl_types.specs.declared.keys.PolicyKind.{PolicyKind}
use Rattle.cl_types.specs.declared.keys.PolicyKind.TheVariants.{Cluster, Antrea, Kube}
use Rattle.cl_types.specs.declared.keys.RuleKey.{RuleKey}
use Rattle.cl_types.specs.declared.verdict.Action.{Action}
use Rattle.cl_types.specs.declared.verdict.Action.TheVariants.{Allow, Drop}
use Rattle.cluster_types.specs.declared.policy.Rule.{Rule}
use Rattle.cluster_types.specs.Tier.{kube_tier}
use Rattle.json_fields.specs.declared.refusal.ReadRefusal.{ReadRefusal}
use Rattle.json_fields.specs.declared.refusal.ReadRefusal.TheVariants.{BadAction}
use Rattle.json_fields.specs.Fields.{inner}
use Rattle.json_fields.specs.Shapes.{unless, in_field, object_faults, list_faults, items_of}
use Rattle.json_fields.specs.Unknown.{other_field, unsupported}
use Rattle.policy_parts.specs.Actions.{given_action}
use Rattle.policy_objects.specs.declared.rules.RuleForm.{RuleForm}
use Rattle.policy_objects.specs.declared.rules.Frame.{Frame}
use Rattle.policy_objects.specs.Peers.{peer_faults, peers_value, references_value}
use Rattle.policy_parts.specs.Ports.{ports_faults, port_items, services_value, names_value}

-- ---- the fields of a rule

abbrev pub peers_field : Dir → List ℕ
peers_field Ingress = codes "from"
peers_field Egress = codes "to"

-- a field that no rule of a Kubernetes policy has
unfoldable pub beside_kube : Dir → Data → Option (List ℕ)
beside_kube dir d = other_field (peers_field dir ∷ codes "ports" ∷ []) (Some d)

-- a field that no rule of an Antrea policy has; its name and what it says of logging mean nothing here
unfoldable pub beside_native : Dir → Data → Option (List ℕ)
beside_native dir d =
    other_field
    (codes "action" ∷ peers_field dir ∷ codes "ports" ∷ codes "name" ∷ codes "enableLogging" ∷ codes "logLabel" ∷ [])
    (Some d)

abbrev pub beside_rule : PolicyKind → Dir → Data → Option (List ℕ)
beside_rule Cluster dir d = beside_native dir d
beside_rule Antrea dir d = beside_native dir d
beside_rule Kube dir d = beside_kube dir d

-- ---- the action

-- a rule of a Kubernetes policy allows
abbrev pub action_of : PolicyKind → Bool → Data → Option Action
action_of Cluster baseline d = given_action baseline d
action_of Antrea baseline d = given_action baseline d
action_of Kube baseline d = Some Allow

-- ---- faults

unfoldable pub action_faults : RuleForm → Data → List ReadRefusal
action_faults form d = unless (is_some (action_of form.kind form.baseline d)) BadAction

unfoldable pub rule_peers_faults : RuleForm → Data → List ReadRefusal
rule_peers_faults form d = in_field (peers_field form.dir) (list_faults (peer_faults form.kind)) (Some d)

unfoldable pub rule_faults : RuleForm → Data → List ReadRefusal
rule_faults form d =
    object_faults (Some d) ++ unsupported (beside_rule form.kind form.dir d) ++ action_faults form d ++ rule_peers_faults form d
    ++ ports_faults d

-- ---- what a rule means

unfoldable pub peer_items : Dir → Data → List Data
peer_items dir d = items_of (inner (peers_field dir) (Some d))

unfoldable pub rule_references : Dir → Data → List (List ℕ)
rule_references dir d = references_value (peer_items dir d)

-- the number of a tier is the cluster's to find
abbrev pub tier_number : PolicyKind → ℕ
tier_number Cluster = 0
tier_number Antrea = 0
tier_number Kube = kube_tier

abbrev pub rule_key : Frame → Dir → ℕ → RuleKey
rule_key frame dir i = record { tier = tier_number frame.key.kind; priority = frame.priority; policy = frame.key; dir = dir; index = i }

-- the rule at place i of its direction; one with a fault in its action drops
unfoldable pub rule_at : Frame → Dir → ℕ → Data → Rule
rule_at frame dir i d =
    record {
      key = rule_key frame dir i;
      action = unwrap_or (action_of frame.key.kind frame.baseline d) Drop;
      peers = peers_value frame.own (peer_items dir d);
      services = services_value (port_items d);
      named = names_value (port_items d);
    }

unfoldable pub rules_from : Frame → Dir → ℕ → List Data → List Rule
rules_from frame dir i [] = []
rules_from frame dir i (d ∷ ds) = rule_at frame dir i d ∷ rules_from frame dir (i + 1) ds

unfoldable pub rules_value : Frame → List Data → List Data → List Rule
rules_value frame ingress egress = rules_from frame Ingress 0 ingress ++ rules_from frame Egress 0 egress

unfoldable pub references_of_rules : List Data → List Data → List (List (List ℕ))
references_of_rules ingress egress = map (rule_references Ingress) ingress ++ map (rule_references Egress) egress

-- ---- the two lists

-- a rule's place is a number of 32 bits
abbrev pub rule_room : ℕ
rule_room = 2 ^ 32

unfoldable pub ingress_items : Option Data → List Data
ingress_items spec = take rule_room (items_of (inner (codes "ingress") spec))

unfoldable pub egress_items : Option Data → List Data
egress_items spec = take rule_room (items_of (inner (codes "egress") spec))

abbrev pub form_of : PolicyKind → Bool → Dir → RuleForm
form_of kind baseline dir = record { kind = kind; baseline = baseline; dir = dir }

unfoldable pub ingress_faults : PolicyKind → Bool → Option Data → List ReadRefusal
ingress_faults kind baseline spec = in_field (codes "ingress") (list_faults (rule_faults (form_of kind baseline Ingress))) spec

unfoldable pub egress_faults : PolicyKind → Bool → Option Data → List ReadRefusal
egress_faults kind baseline spec = in_field (codes "egress") (list_faults (rule_faults (form_of kind baseline Egress))) spec
