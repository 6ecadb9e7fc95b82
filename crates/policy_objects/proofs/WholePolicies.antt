-- What is read of a policy has what its type keeps.
use Rattle.std.proofs.Common.{◌≡◌, ◌≢◌, ℕ, List, [], ◌∷◌, Bool, true, false, Option, Some, None, codes, if◌then◌else◌, refl, arith}
use Rattle.std.specs.Prelude.{IfSome}
use Rattle.std.specs.List.{AllByRecursion}
use Rattle.serde_json.specs.Data.{Data}
use Rattle.cl_types.specs.declared.keys.Dir.{Dir}
use Rattle.cl_types.specs.declared.keys.PolicyKind.{PolicyKind}
use Rattle.cl_types.specs.declared.keys.PolicyKind.TheVariants.{Cluster, Antrea, Kube}
use Rattle.cl_types.specs.PolicyName.{HasNoSlash, IsPolicyName}
use Rattle.label_select.specs.Forms.{is_namespace_name}
use Rattle.label_select.specs.Group.{Group, IsGroup, IsWholeScope}
use Rattle.cluster_types.specs.declared.policy.Peer.TheVariants as peer
use Rattle.cluster_types.specs.Policy.{IsPolicy}
use Rattle.cluster_types.specs.Whole.{IsWholePeer, AreWholePeers, IsWholeRule}
use Rattle.json_fields.specs.Fields.{inner}
use Rattle.json_fields.specs.ValueLaws.{all_given, selector_is}
use Rattle.object_reader.specs.Groups.{pod_selector, has_namespace_selector, cluster_group}
use Rattle.object_reader.specs.Laws.{SelectorsMakeGroups}
use Rattle.object_reader.specs.Nodes.{metadata_of, spec_of, name_of}
use Rattle.policy_parts.specs.Places.{is_in_baseline}
use Rattle.policy_objects.specs.declared.rules.Frame.{Frame}
use Rattle.policy_objects.specs.Applied.{applied_of, applied_value, applied_items}
use Rattle.policy_objects.specs.Laws.{KubePoliciesAreWhole, AntreaPoliciesAreWhole, ClusterPoliciesAreWhole}
use Rattle.policy_objects.specs.Peers.{all_pods, own_pods, group_of, has_reference, has_block, the_block, plain_peer, peer_of, peers_value}
use Rattle.policy_objects.specs.Policies.{namespace_of, isolates_in, isolates_out, kept, kube_frame, kube_rules, kube_value, kube_policy_value, native_value, antrea_frame, antrea_policy_value, cluster_frame, cluster_policy_value}
use Rattle.policy_objects.specs.Rules.{peer_items, rule_at, rules_value, ingress_items, egress_items}
use Rattle.policy_objects.proofs.Names.{ObjectsHaveNoSlash, namespace_has_form, policy_name_has_no_slash}
use Rattle.policy_objects.proofs.RuleLists.{all_of, kube_is_policy, native_is_policy}

-- ---- names

-- a namespace's name has no `/` and isn't empty
abbrev pub NamespacesHaveNoSlash : Type 0
NamespacesHaveNoSlash = (text : List ℕ) → is_namespace_name text ≡ true → HasNoSlash text × (text ≢ [])

namespace_form : (d : Data) → is_namespace_name (namespace_of d) ≡ true
unfolding namespace_of
namespace_form d = namespace_has_form (inner (codes "namespace") (metadata_of d))

-- a policy in a namespace
name_in_namespace : NamespacesHaveNoSlash → ObjectsHaveNoSlash → (kind : PolicyKind) (d : Data) → kind ≢ Cluster → IsPolicyName kind (namespace_of d) (name_of d)
name_in_namespace namespaces objects kind d other =
    let namespace = namespaces (namespace_of d) (namespace_form d) in
    record {
      namespace_form = namespace.0;
      name_form = policy_name_has_no_slash objects d;
      cluster_wide = ((λ none. absurd (namespace.1 none)), (λ is. absurd (other is)));
    }

no_slash_in_none : HasNoSlash []
no_slash_in_none = λ k d lt eq. omega (arith, lt)

-- a policy for the cluster
name_of_cluster : ObjectsHaveNoSlash → (d : Data) → IsPolicyName Cluster [] (name_of d)
name_of_cluster objects d =
    record { namespace_form = no_slash_in_none; name_form = policy_name_has_no_slash objects d; cluster_wide = ((λ none. refl), (λ is. refl)) }

-- ---- groups

module _ (law : SelectorsMakeGroups) (own : Group) (scope : IsWholeScope own.scope) where
  own_is : (o : Option Data) → IsGroup (own_pods own o)
  unfolding own_pods pod_selector
  own_is o = record { scope_form = scope; pods_form = selector_is (inner (codes "podSelector") o) }

  group_is : (o : Option Data) → IsGroup (group_of own o)
  unfolding group_of
  group_is o = by_test (has_namespace_selector o)
    where
      by_test : (b : Bool) → IsGroup (if b then cluster_group o else own_pods own o)
      by_test true = law o
      by_test false = own_is o

  applied_is : (d : Data) → IfSome (applied_of own d) IsGroup
  unfolding applied_of
  applied_is d = by_test (has_reference d)
    where
      by_test : (b : Bool) → IfSome (if b then None else Some (group_of own (Some d))) IsGroup
      by_test true = tt
      by_test false = group_is (Some d)

  pub applied_are : (ds : List Data) → AllByRecursion IsGroup (applied_value own ds)
  applied_are ds = all_given IsGroup (applied_of own) applied_is ds

  plain_peer_is : (d : Data) → IsWholePeer (plain_peer own d)
  unfolding plain_peer
  plain_peer_is d = by_test (has_block d)
    where
      by_test : (b : Bool) → IsWholePeer (if b then peer.Block (the_block d) else peer.Group (group_of own (Some d)))
      by_test true = tt
      by_test false = group_is (Some d)

  peer_is : (d : Data) → IfSome (peer_of own d) IsWholePeer
  unfolding peer_of
  peer_is d = by_test (has_reference d)
    where
      by_test : (b : Bool) → IfSome (if b then None else Some (plain_peer own d)) IsWholePeer
      by_test true = tt
      by_test false = plain_peer_is d

  pub peers_are : (ds : List Data) → AreWholePeers (peers_value own ds)
  peers_are [] = tt
  peers_are (d ∷ ds) = all_given IsWholePeer (peer_of own) peer_is (d ∷ ds)

module _ (law : SelectorsMakeGroups) (frame : Frame) (scope : IsWholeScope frame.own.scope) where
  rule_is : (dir : Dir) (i : ℕ) (d : Data) → IsWholeRule (rule_at frame dir i d)
  unfolding rule_at
  rule_is dir i d = peers_are law frame.own scope (peer_items dir d)

  pub rules_are : (ds es : List Data) → AllByRecursion IsWholeRule (rules_value frame ds es)
  rules_are ds es = all_of IsWholeRule frame rule_is ds es

-- ---- policies of Kubernetes

kube_policy_is : (d : Data) → IsPolicy (kube_policy_value d)
unfolding kube_policy_value kube_value kube_frame
kube_policy_is d =
    kube_is_policy (kube_frame d) (spec_of d) (kube_policy_value d)
    (record { kind = refl; no_priority = refl; key = refl; tier = refl; priority = refl; one_group = refl; ingress = refl; egress = refl; rules = refl })

kube_rules_are : SelectorsMakeGroups → (frame : Frame) → IsWholeScope frame.own.scope → (spec : Option Data) → AllByRecursion IsWholeRule (kube_rules frame spec)
unfolding kube_rules
kube_rules_are law frame scope spec = rules_are law frame scope (kept (isolates_in spec) (ingress_items spec)) (kept (isolates_out spec) (egress_items spec))

pub kube_policies_are : NamespacesHaveNoSlash → ObjectsHaveNoSlash → SelectorsMakeGroups → KubePoliciesAreWhole
unfolding kube_policy_value kube_value kube_frame
kube_policies_are namespaces objects law d =
    record {
      policy = kube_policy_is d;
      name = name_in_namespace namespaces objects Kube d (λ is. cc);
      applied = (own_is law (kube_frame d).own (namespace_form d) (spec_of d), tt);
      peers = kube_rules_are law (kube_frame d) (namespace_form d) (spec_of d);
    }

-- ---- policies of Antrea

antrea_policy_is : (d : Data) → IsPolicy (antrea_policy_value d)
unfolding antrea_policy_value native_value antrea_frame is_in_baseline
antrea_policy_is d =
    native_is_policy (antrea_frame d) (ingress_items (spec_of d)) (egress_items (spec_of d)) (antrea_policy_value d)
    (record { native = λ is. cc; key = refl; baseline = refl; priority = refl; ingress = refl; egress = refl; rules = refl })

pub antrea_policies_are : NamespacesHaveNoSlash → ObjectsHaveNoSlash → SelectorsMakeGroups → AntreaPoliciesAreWhole
unfolding antrea_policy_value native_value antrea_frame
antrea_policies_are namespaces objects law d =
    record {
      policy = antrea_policy_is d;
      name = name_in_namespace namespaces objects Antrea d (λ is. cc);
      applied = applied_are law (antrea_frame d).own (namespace_form d) (applied_items (spec_of d));
      peers = rules_are law (antrea_frame d) (namespace_form d) (ingress_items (spec_of d)) (egress_items (spec_of d));
    }

cluster_policy_is : (d : Data) → IsPolicy (cluster_policy_value d).policy
unfolding cluster_policy_value native_value cluster_frame is_in_baseline
cluster_policy_is d =
    native_is_policy (cluster_frame d) (ingress_items (spec_of d)) (egress_items (spec_of d)) (cluster_policy_value d).policy
    (record { native = λ is. cc; key = refl; baseline = refl; priority = refl; ingress = refl; egress = refl; rules = refl })

all_pods_are : IsWholeScope all_pods.scope
all_pods_are = selector_is None

pub cluster_policies_are : ObjectsHaveNoSlash → SelectorsMakeGroups → ClusterPoliciesAreWhole
unfolding cluster_policy_value native_value cluster_frame
cluster_policies_are objects law d =
    record {
      policy = cluster_policy_is d;
      name = name_of_cluster objects d;
      applied = applied_are law (cluster_frame d).own all_pods_are (applied_items (spec_of d));
      peers = rules_are law (cluster_frame d) all_pods_are (ingress_items (spec_of d)) (egress_items (spec_of d));
    }
