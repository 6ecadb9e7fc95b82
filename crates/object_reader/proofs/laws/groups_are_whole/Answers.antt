use Rattle.object_reader.proofs.WholeObjects.{groups_are, cluster_groups_are}
use Rattle.object_reader.proofs.laws.groups_are_whole.Goals as goal

pub returns : goal.returns
returns c = record { selectors = groups_are; groups = cluster_groups_are }
