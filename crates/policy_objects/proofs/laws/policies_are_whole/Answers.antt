use Rattle.policy_objects.proofs.WholePolicies.{kube_policies_are, antrea_policies_are, cluster_policies_are}
use Rattle.policy_objects.proofs.laws.policies_are_whole.Goals as goal

pub returns : goal.returns
returns c =
    let names = c.names_have_no_slash.ensures in
    let groups = c.groups_are_whole.ensures.selectors in
    record {
      kube = kube_policies_are names.namespaces names.objects groups;
      antrea = antrea_policies_are names.namespaces names.objects groups;
      cluster = cluster_policies_are names.objects groups;
    }
