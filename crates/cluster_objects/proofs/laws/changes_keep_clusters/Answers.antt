use Rattle.cluster_types.specs.ClusterLaws.{no_objects_are}
use Rattle.cluster_objects.proofs.ChangeLaws.{change_keeps, changes_keep}
use Rattle.cluster_objects.proofs.laws.changes_keep_clusters.Goals as goal

pub returns : goal.returns
returns c = record { none = no_objects_are; one = change_keeps; all = changes_keep }
