-- The nodes alone are a cluster, and at revision 0 all are in step.
use Rattle.std.proofs.Common.{◌≡◌, [], ◌∷◌, Bool, true, false, not, ◌&&◌, if◌then◌else◌, refl, arith}
use Rattle.std.specs.List.{AllByRecursion}
use Rattle.cl_types.specs.ListLaws.{all_each}
use Rattle.cl_types.specs.declared.stream.Stream.TheVariants.{Policies, Addresses, Applied}
use Rattle.cluster_types.specs.Cluster.{ClusterData, IsCluster, HasMarksEnough}
use Rattle.cluster_types.specs.ClusterLaws.{no_objects_are}
use Rattle.cluster_types.specs.Node.{NodeData}
use Rattle.watch_streams.specs.OneOfAll.{all_map}
use Rattle.run_machine.specs.Laws.{IsInStep}
use Rattle.run_machine.specs.Machine.{WorldData, nodes_alone, first_site, begun, fixed_after}

pub nodes_alone_are : (c : ClusterData) → IsCluster c → IsCluster (nodes_alone c)
nodes_alone_are c is = record {
  nodes_ascend = is.nodes_ascend;
  namespaces_ascend = tt;
  pods_ascend = tt;
  tiers_ascend = no_objects_are.tiers_ascend;
  policies_ascend = tt;
  egresses_ascend = tt;
  apart = tt;
  early = λ early. record { namespaces = refl; pods = refl; tiers = refl; policies = refl; egresses = refl };
  static = no_objects_are.static;
  in_tiers = tt;
  blocks_apart = is.blocks_apart;
  limits = record {
    nodes = is.limits.nodes;
    namespaces = omega arith;
    pods = omega arith;
    tiers = omega arith;
    policies = λ kind. omega arith;
    egresses = omega arith;
    each_policy = tt;
    native_rules = omega arith;
    kube_rules = omega arith;
    each_pod = tt;
  };
  marks = all_each (HasMarksEnough []) (λ n. omega arith) c.nodes;
  parts = record { nodes = is.parts.nodes; namespaces = tt; pods = tt; policies = tt; egresses = tt };
}

first_in_step : (c : ClusterData) (n : NodeData) → IsInStep (nodes_alone c ∷ []) (first_site n)
first_in_step c n Policies = record { queued = record { within = omega arith; to = 0; reads = refl; whole = λ is. refl }; up_to_date = refl }
first_in_step c n Addresses = record { queued = record { within = omega arith; to = 0; reads = refl; whole = λ is. refl }; up_to_date = refl }
first_in_step c n Applied = record { queued = record { within = omega arith; to = 0; reads = refl; whole = λ is. refl }; up_to_date = refl }

pub begun_in_step : (c : ClusterData) (w : WorldData) → AllByRecursion (IsInStep (begun c w).history) (begun c w).sites
begun_in_step c w = all_map (IsInStep (nodes_alone c ∷ [])) first_site c.nodes (all_each (λ n. IsInStep (nodes_alone c ∷ []) (first_site n)) (first_in_step c) c.nodes)

-- revision 0 is made where the nodes weren't fixed before, and else the world is the same
pub fixed_cases : (P : WorldData → Type 0) (c : ClusterData) (w : WorldData) → P w → (w.cluster.fixed ≡ false → P (begun c w)) → P (fixed_after c w)
fixed_cases P c w old new = by_both c.fixed w.cluster.fixed refl
  where
    by_both : (b d : Bool) → w.cluster.fixed ≡ d → P (if b && not d then begun c w else w)
    by_both false d is = old
    by_both true true is = old
    by_both true false is = new is
