use Rattle.std.proofs.Common.{Option, sym, subst, ap, ◌∙◌}
use Rattle.cluster_objects.specs.Addresses.{pod_at, IsOnlyPodAt}
use Rattle.cluster_types.specs.Cluster.{ClusterState, AllApart}
use Rattle.cluster_types.specs.Pod.{PodData}
use Rattle.cluster_objects.specs.PodAtLaws.{only_pod_at}
use Rattle.cluster_objects.proofs.cluster.Cluster.pod_at.Goals as goal

pub returns-clause-alone : goal.returns-clause-alone
returns-clause-alone c =
    let apart = subst (λ (s : ClusterState). AllApart s.cluster.pods) c.self.view_is c.self.invariant.cluster.apart in
    let found = c.at.ensures ∙ ap (λ (s : ClusterState). pod_at s.cluster.pods c.args.a) c.self.view_is in
    subst (λ (o : Option PodData). IsOnlyPodAt c.args.self.now.cluster.pods c.args.a o) (sym found) (only_pod_at c.args.self.now.cluster.pods c.args.a apart)
