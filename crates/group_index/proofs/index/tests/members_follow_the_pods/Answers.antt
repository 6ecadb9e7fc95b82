use Rattle.std.proofs.Common.{None, Some, subst}
use Rattle.group_index.specs.Changes.{before_pod}
use Rattle.group_index.specs.Index.{StandsFor}
use Rattle.group_index.proofs.index.tests.members_follow_the_pods.Goals as goal

pub pod_changed-requires : goal.pod_changed-requires
pod_changed-requires g c =
    subst (λ p. StandsFor c.index_of-index.result (before_pod None (Some p) c.put_new-2.new.c.cluster)) c.copy_of.ensures
    (c.put_new-2.ensures c.index_of-index.result c.index_of-index.ensures)
