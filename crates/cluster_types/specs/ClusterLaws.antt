-- The static tiers and nothing else are a cluster.
use Rattle.std.proofs.Common.{refl, arith}
use Rattle.cluster_types.specs.Cluster.{IsCluster, no_objects}

pub no_objects_are : IsCluster no_objects
no_objects_are = record {
  nodes_ascend = tt;
  namespaces_ascend = tt;
  pods_ascend = tt;
  tiers_ascend = ((refl, (refl, (refl, (refl, (refl, tt))))), ((refl, (refl, (refl, (refl, tt)))), ((refl, (refl, (refl, tt))), ((refl, (refl, tt)), ((refl, tt), (tt, tt))))));
  policies_ascend = tt;
  egresses_ascend = tt;
  apart = tt;
  early = λ early. record { namespaces = refl; pods = refl; tiers = refl; policies = refl; egresses = refl };
  static = (refl, (refl, (refl, (refl, (refl, (refl, tt))))));
  in_tiers = tt;
  blocks_apart = tt;
  limits = record {
    nodes = omega arith;
    namespaces = omega arith;
    pods = omega arith;
    tiers = omega arith;
    policies = λ kind. omega arith;
    egresses = omega arith;
    each_policy = tt;
    native_rules = omega arith;
    kube_rules = omega arith;
    each_pod = tt;
  };
  marks = tt;
  parts = record { nodes = tt; namespaces = tt; pods = tt; policies = tt; egresses = tt };
}
