-- What every cluster keeps once the objects of one kind are others.
use Rattle.std.proofs.Common.{◌≤◌, List, length, true}
use Rattle.std.specs.List.{AllByRecursion}
use Rattle.std.specs.Ordering.{nat_cmp}
use Rattle.cl_types.specs.declared.keys.PolicyKind.{PolicyKind}
use Rattle.cl_types.specs.Ascending.{Ascends}
use Rattle.cl_types.specs.RuleOrder.{pod_order, policy_order}
use Rattle.cl_types.specs.Text.{text_order}
use Rattle.cluster_types.specs.Cluster.{ClusterData, IsCluster, AllApart, AllBlocksApart, HasTier, HasMarksEnough, IsPodWithinLimits, IsPolicyWithinLimits}
use Rattle.cluster_types.specs.Counts.{total, count_of_kind, native_rule_count, kube_rule_count}
use Rattle.cluster_types.specs.Egress.{EgressData}
use Rattle.cluster_types.specs.Limits.{max_nodes, max_namespaces, max_pods, max_tiers, max_policies, max_egresses, max_native_rules, max_kube_rules}
use Rattle.cluster_types.specs.Node.{NamespaceData, NodeData}
use Rattle.cluster_types.specs.Pod.{PodData}
use Rattle.cluster_types.specs.Policy.{PolicyData}
use Rattle.cluster_types.specs.Tier.{TierData, HasStaticTiers}
use Rattle.cluster_types.specs.Whole.{IsWholeNode, IsWholeNamespace, IsWholePod, IsWholePolicy, IsWholeEgress}
use Rattle.cluster_objects.specs.Apply.{with_nodes}

-- nodes that a cluster may have
pub record AreNodes (c : ClusterData) (nodes : List NodeData) : Type 0 where
  pub up : Ascends (λ (n : NodeData). n.name) text_order nodes
  pub apart : AllBlocksApart nodes
  pub few : length nodes ≤ max_nodes
  pub marks : AllByRecursion (HasMarksEnough c.egresses) nodes
  pub parts : AllByRecursion IsWholeNode nodes

pub nodes_kept : (c : ClusterData) (nodes : List NodeData) → AreNodes c nodes → IsCluster c → IsCluster (with_nodes c nodes)
nodes_kept c nodes is was =
    record {
      nodes_ascend = is.up;
      namespaces_ascend = was.namespaces_ascend;
      pods_ascend = was.pods_ascend;
      tiers_ascend = was.tiers_ascend;
      policies_ascend = was.policies_ascend;
      egresses_ascend = was.egresses_ascend;
      apart = was.apart;
      early = λ early. record { namespaces = (was.early early).namespaces; pods = (was.early early).pods; tiers = (was.early early).tiers; policies = (was.early early).policies; egresses = (was.early early).egresses };
      static = was.static;
      in_tiers = was.in_tiers;
      blocks_apart = is.apart;
      limits = record {
        nodes = is.few;
        namespaces = was.limits.namespaces;
        pods = was.limits.pods;
        tiers = was.limits.tiers;
        policies = was.limits.policies;
        egresses = was.limits.egresses;
        each_policy = was.limits.each_policy;
        native_rules = was.limits.native_rules;
        kube_rules = was.limits.kube_rules;
        each_pod = was.limits.each_pod;
      };
      marks = is.marks;
      parts = record { nodes = is.parts; namespaces = was.parts.namespaces; pods = was.parts.pods; policies = was.parts.policies; egresses = was.parts.egresses };
    }

-- namespaces that a cluster may have
pub record AreNamespaces (c : ClusterData) (namespaces : List NamespaceData) : Type 0 where
  pub up : Ascends (λ (n : NamespaceData). n.name) text_order namespaces
  pub few : length namespaces ≤ max_namespaces
  pub parts : AllByRecursion IsWholeNamespace namespaces

pub namespaces_kept : (c : ClusterData) (namespaces : List NamespaceData) → AreNamespaces c namespaces → IsCluster c → IsCluster (record c { fixed = true; namespaces = namespaces })
namespaces_kept c namespaces is was =
    record {
      nodes_ascend = was.nodes_ascend;
      namespaces_ascend = is.up;
      pods_ascend = was.pods_ascend;
      tiers_ascend = was.tiers_ascend;
      policies_ascend = was.policies_ascend;
      egresses_ascend = was.egresses_ascend;
      apart = was.apart;
      early = λ still. cc;
      static = was.static;
      in_tiers = was.in_tiers;
      blocks_apart = was.blocks_apart;
      limits = record {
        nodes = was.limits.nodes;
        namespaces = is.few;
        pods = was.limits.pods;
        tiers = was.limits.tiers;
        policies = was.limits.policies;
        egresses = was.limits.egresses;
        each_policy = was.limits.each_policy;
        native_rules = was.limits.native_rules;
        kube_rules = was.limits.kube_rules;
        each_pod = was.limits.each_pod;
      };
      marks = was.marks;
      parts = record { nodes = was.parts.nodes; namespaces = is.parts; pods = was.parts.pods; policies = was.parts.policies; egresses = was.parts.egresses };
    }

-- the nodes may be fixed
pub nodes_fixed : (c : ClusterData) → IsCluster c → IsCluster (record c { fixed = true })
nodes_fixed c was = namespaces_kept c c.namespaces (record { up = was.namespaces_ascend; few = was.limits.namespaces; parts = was.parts.namespaces }) was

-- pods that a cluster may have
pub record ArePods (c : ClusterData) (pods : List PodData) : Type 0 where
  pub up : Ascends (λ (p : PodData). p.key) pod_order pods
  pub apart : AllApart pods
  pub few : length pods ≤ max_pods
  pub each : AllByRecursion IsPodWithinLimits pods
  pub parts : AllByRecursion IsWholePod pods

pub pods_kept : (c : ClusterData) (pods : List PodData) → ArePods c pods → IsCluster c → IsCluster (record c { fixed = true; pods = pods })
pods_kept c pods is was =
    record {
      nodes_ascend = was.nodes_ascend;
      namespaces_ascend = was.namespaces_ascend;
      pods_ascend = is.up;
      tiers_ascend = was.tiers_ascend;
      policies_ascend = was.policies_ascend;
      egresses_ascend = was.egresses_ascend;
      apart = is.apart;
      early = λ still. cc;
      static = was.static;
      in_tiers = was.in_tiers;
      blocks_apart = was.blocks_apart;
      limits = record {
        nodes = was.limits.nodes;
        namespaces = was.limits.namespaces;
        pods = is.few;
        tiers = was.limits.tiers;
        policies = was.limits.policies;
        egresses = was.limits.egresses;
        each_policy = was.limits.each_policy;
        native_rules = was.limits.native_rules;
        kube_rules = was.limits.kube_rules;
        each_pod = is.each;
      };
      marks = was.marks;
      parts = record { nodes = was.parts.nodes; namespaces = was.parts.namespaces; pods = is.parts; policies = was.parts.policies; egresses = was.parts.egresses };
    }

-- tiers that a cluster may have
pub record AreTiers (c : ClusterData) (tiers : List TierData) : Type 0 where
  pub up : Ascends (λ (t : TierData). t.priority) nat_cmp tiers
  pub few : length tiers ≤ max_tiers
  pub static : HasStaticTiers tiers
  pub meant : AllByRecursion (HasTier tiers) c.policies

pub tiers_kept : (c : ClusterData) (tiers : List TierData) → AreTiers c tiers → IsCluster c → IsCluster (record c { fixed = true; tiers = tiers })
tiers_kept c tiers is was =
    record {
      nodes_ascend = was.nodes_ascend;
      namespaces_ascend = was.namespaces_ascend;
      pods_ascend = was.pods_ascend;
      tiers_ascend = is.up;
      policies_ascend = was.policies_ascend;
      egresses_ascend = was.egresses_ascend;
      apart = was.apart;
      early = λ still. cc;
      static = is.static;
      in_tiers = is.meant;
      blocks_apart = was.blocks_apart;
      limits = record {
        nodes = was.limits.nodes;
        namespaces = was.limits.namespaces;
        pods = was.limits.pods;
        tiers = is.few;
        policies = was.limits.policies;
        egresses = was.limits.egresses;
        each_policy = was.limits.each_policy;
        native_rules = was.limits.native_rules;
        kube_rules = was.limits.kube_rules;
        each_pod = was.limits.each_pod;
      };
      marks = was.marks;
      parts = record { nodes = was.parts.nodes; namespaces = was.parts.namespaces; pods = was.parts.pods; policies = was.parts.policies; egresses = was.parts.egresses };
    }

-- policies that a cluster may have
pub record ArePolicies (c : ClusterData) (policies : List PolicyData) : Type 0 where
  pub up : Ascends (λ (p : PolicyData). p.key) policy_order policies
  pub in_tiers : AllByRecursion (HasTier c.tiers) policies
  pub few : (kind : PolicyKind) → total (count_of_kind kind) policies ≤ max_policies
  pub each : AllByRecursion IsPolicyWithinLimits policies
  pub native_rules : total native_rule_count policies ≤ max_native_rules
  pub kube_rules : total kube_rule_count policies ≤ max_kube_rules
  pub parts : AllByRecursion IsWholePolicy policies

pub policies_kept : (c : ClusterData) (policies : List PolicyData) → ArePolicies c policies → IsCluster c → IsCluster (record c { fixed = true; policies = policies })
policies_kept c policies is was =
    record {
      nodes_ascend = was.nodes_ascend;
      namespaces_ascend = was.namespaces_ascend;
      pods_ascend = was.pods_ascend;
      tiers_ascend = was.tiers_ascend;
      policies_ascend = is.up;
      egresses_ascend = was.egresses_ascend;
      apart = was.apart;
      early = λ still. cc;
      static = was.static;
      in_tiers = is.in_tiers;
      blocks_apart = was.blocks_apart;
      limits = record {
        nodes = was.limits.nodes;
        namespaces = was.limits.namespaces;
        pods = was.limits.pods;
        tiers = was.limits.tiers;
        policies = is.few;
        egresses = was.limits.egresses;
        each_policy = is.each;
        native_rules = is.native_rules;
        kube_rules = is.kube_rules;
        each_pod = was.limits.each_pod;
      };
      marks = was.marks;
      parts = record { nodes = was.parts.nodes; namespaces = was.parts.namespaces; pods = was.parts.pods; policies = is.parts; egresses = was.parts.egresses };
    }

-- Egresses that a cluster may have
pub record AreEgresses (c : ClusterData) (egresses : List EgressData) : Type 0 where
  pub up : Ascends (λ (e : EgressData). e.name) text_order egresses
  pub few : length egresses ≤ max_egresses
  pub marks : AllByRecursion (HasMarksEnough egresses) c.nodes
  pub parts : AllByRecursion IsWholeEgress egresses

pub egresses_kept : (c : ClusterData) (egresses : List EgressData) → AreEgresses c egresses → IsCluster c → IsCluster (record c { fixed = true; egresses = egresses })
egresses_kept c egresses is was =
    record {
      nodes_ascend = was.nodes_ascend;
      namespaces_ascend = was.namespaces_ascend;
      pods_ascend = was.pods_ascend;
      tiers_ascend = was.tiers_ascend;
      policies_ascend = was.policies_ascend;
      egresses_ascend = is.up;
      apart = was.apart;
      early = λ still. cc;
      static = was.static;
      in_tiers = was.in_tiers;
      blocks_apart = was.blocks_apart;
      limits = record {
        nodes = was.limits.nodes;
        namespaces = was.limits.namespaces;
        pods = was.limits.pods;
        tiers = was.limits.tiers;
        policies = was.limits.policies;
        egresses = is.few;
        each_policy = was.limits.each_policy;
        native_rules = was.limits.native_rules;
        kube_rules = was.limits.kube_rules;
        each_pod = was.limits.each_pod;
      };
      marks = is.marks;
      parts = record { nodes = was.parts.nodes; namespaces = was.parts.namespaces; pods = was.parts.pods; policies = was.parts.policies; egresses = is.parts };
    }
