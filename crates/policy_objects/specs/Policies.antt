-- Policies of Kubernetes (NetworkPolicy v1), and those of Antrea for a namespace and for the cluster.
use Rattle.std.specs.Prelude.{ℕ, List, [], ◌∷◌, ◌++◌, Bool, true, false, Option, Some, codes}
use Rattle.serde_json.specs.Data.{Data}
use Rattle.cl_types.specs.declared.keys.PolicyKind.{PolicyKind}
use Rattle.cl_types.specs.declared.keys.PolicyKind.TheVariants.{Cluster, Antrea, Kube}
use Rattle.cl_types.specs.PolicyName.{PolicyName}
use Rattle.cluster_types.specs.declared.references.RefPolicy.{RefPolicy}
use Rattle.cluster_types.specs.declared.policy.Rule.{Rule}
use Rattle.cluster_types.specs.Policy.{PolicyData}
use Rattle.json_fields.specs.declared.refusal.ReadRefusal.{ReadRefusal}
use Rattle.json_fields.specs.Fields.{inner}
use Rattle.json_fields.specs.Names.{namespaced_faults, namespace_value}
use Rattle.json_fields.specs.Shapes.{in_field, object_faults}
use Rattle.object_reader.specs.Groups.{pod_selector_faults}
use Rattle.object_reader.specs.Nodes.{metadata_of, spec_of, named_faults, name_of}
use Rattle.policy_objects.specs.declared.rules.Frame.{Frame}
use Rattle.policy_objects.specs.Applied.{applied_to_faults, applied_items, applied_value}
use Rattle.policy_objects.specs.Peers.{namespace_pods, all_pods, own_pods, references_value}
use Rattle.policy_parts.specs.Directions.{types_faults, types_of, has_ingress, has_egress}
use Rattle.policy_parts.specs.Places.{tier_faults, tier_name, is_in_baseline, priority_faults, priority_value}
use Rattle.policy_objects.specs.Rules.{ingress_faults, egress_faults, ingress_items, egress_items, rules_value, references_of_rules}

-- ---- a policy in a namespace

unfoldable pub metadata_faults : Data → List ReadRefusal
metadata_faults d = in_field (codes "metadata") namespaced_faults (Some d)

unfoldable pub namespace_of : Data → List ℕ
namespace_of d = namespace_value (inner (codes "namespace") (metadata_of d))

abbrev pub key_in_namespace : PolicyKind → Data → PolicyName
key_in_namespace kind d = record { kind = kind; namespace = namespace_of d; name = name_of d }

-- ---- the directions of a Kubernetes policy

unfoldable pub isolates_in : Option Data → Bool
isolates_in spec = has_ingress (types_of spec)

unfoldable pub isolates_out : Option Data → Bool
isolates_out spec = has_egress (types_of spec) (egress_items spec)

-- rules of a direction that the policy doesn't have aren't kept
abbrev pub kept : Bool → List Data → List Data
kept true ds = ds
kept false ds = []

-- ---- Kubernetes policies

unfoldable pub kube_spec_faults : Option Data → List ReadRefusal
kube_spec_faults spec =
    object_faults spec ++ pod_selector_faults spec ++ types_faults spec ++ ingress_faults Kube false spec ++ egress_faults Kube false spec

unfoldable pub kube_policy_faults : Data → List ReadRefusal
kube_policy_faults d = metadata_faults d ++ in_field (codes "spec") kube_spec_faults (Some d)

abbrev pub namespaced_frame : PolicyName → ℕ → Bool → Frame
namespaced_frame key priority baseline = record { key = key; priority = priority; baseline = baseline; own = namespace_pods key.namespace }

unfoldable pub kube_frame : Data → Frame
kube_frame d = namespaced_frame (key_in_namespace Kube d) 0 false

unfoldable pub kube_rules : Frame → Option Data → List Rule
kube_rules frame spec =
    rules_value frame (kept (isolates_in spec) (ingress_items spec)) (kept (isolates_out spec) (egress_items spec))

unfoldable pub kube_value : Frame → Option Data → PolicyData
kube_value frame spec =
    record {
      key = frame.key;
      tier = [];
      priority = 0;
      applied = own_pods frame.own spec ∷ [];
      isolates_in = isolates_in spec;
      isolates_out = isolates_out spec;
      rules = kube_rules frame spec;
    }

unfoldable pub kube_policy_value : Data → PolicyData
kube_policy_value d = kube_value (kube_frame d) (spec_of d)

-- ---- Antrea policies

unfoldable pub native_spec_faults : PolicyKind → Option Data → List ReadRefusal
native_spec_faults kind spec =
    object_faults spec ++ tier_faults spec ++ priority_faults spec ++ applied_to_faults kind spec
    ++ ingress_faults kind (is_in_baseline spec) spec ++ egress_faults kind (is_in_baseline spec) spec

unfoldable pub native_value : Frame → Option Data → PolicyData
native_value frame spec =
    record {
      key = frame.key;
      tier = tier_name spec;
      priority = frame.priority;
      applied = applied_value frame.own (applied_items spec);
      isolates_in = false;
      isolates_out = false;
      rules = rules_value frame (ingress_items spec) (egress_items spec);
    }

unfoldable pub antrea_policy_faults : Data → List ReadRefusal
antrea_policy_faults d = metadata_faults d ++ in_field (codes "spec") (native_spec_faults Antrea) (Some d)

unfoldable pub antrea_frame : Data → Frame
antrea_frame d = namespaced_frame (key_in_namespace Antrea d) (priority_value (spec_of d)) (is_in_baseline (spec_of d))

unfoldable pub antrea_policy_value : Data → PolicyData
antrea_policy_value d = native_value (antrea_frame d) (spec_of d)

-- ---- policies for the cluster, with references to cluster groups

unfoldable pub cluster_policy_faults : Data → List ReadRefusal
cluster_policy_faults d = named_faults d ++ in_field (codes "spec") (native_spec_faults Cluster) (Some d)

abbrev pub cluster_key : Data → PolicyName
cluster_key d = record { kind = Cluster; namespace = []; name = name_of d }

unfoldable pub cluster_frame : Data → Frame
cluster_frame d =
    record {
      key = cluster_key d;
      priority = priority_value (spec_of d);
      baseline = is_in_baseline (spec_of d);
      own = all_pods;
    }

unfoldable pub applied_references : Option Data → List (List ℕ)
applied_references spec = references_value (applied_items spec)

unfoldable pub rule_references : Option Data → List (List (List ℕ))
rule_references spec = references_of_rules (ingress_items spec) (egress_items spec)

unfoldable pub cluster_policy_value : Data → RefPolicy
cluster_policy_value d =
    record {
      policy = native_value (cluster_frame d) (spec_of d);
      applied_refs = applied_references (spec_of d);
      rule_refs = rule_references (spec_of d);
    }
