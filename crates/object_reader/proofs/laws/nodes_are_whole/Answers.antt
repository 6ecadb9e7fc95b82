use Rattle.object_reader.proofs.WholeObjects.{nodes_are, namespaces_are}
use Rattle.object_reader.proofs.laws.nodes_are_whole.Goals as goal

pub returns : goal.returns
returns c = record { nodes = nodes_are c.texts_are_read_as_functions.ensures.blocks; namespaces = namespaces_are }
