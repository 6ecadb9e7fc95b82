use Rattle.cluster_objects.proofs.ChangeLaws.{fixed_nodes_stay, unchanged_leaves}
use Rattle.cluster_objects.proofs.laws.changes_leave_the_rest.Goals as goal

pub returns : goal.returns
returns c = record { nodes = λ d change o was fixed e. fixed_nodes_stay d was fixed change o e; unchanged = λ d change o was e same. unchanged_leaves d was change o e same }
