use Rattle.policy_reader.proofs.WholeItems.{read_is_whole}
use Rattle.policy_reader.proofs.laws.what_is_read_is_whole.Goals as goal

pub returns : goal.returns
returns c =
    read_is_whole
    (record {
      nodes = c.nodes_are_whole.ensures.nodes;
      namespaces = c.nodes_are_whole.ensures.namespaces;
      groups = c.groups_are_whole.ensures.groups;
      egresses = c.egresses_are_whole.ensures.plain;
      pooled = c.egresses_are_whole.ensures.pooled;
      pods = c.pods_are_whole.ensures;
      kube = c.policies_are_whole.ensures.kube;
      antrea = c.policies_are_whole.ensures.antrea;
      cluster = c.policies_are_whole.ensures.cluster;
    })
