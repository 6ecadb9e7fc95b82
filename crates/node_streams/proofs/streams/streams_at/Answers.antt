use Rattle.node_streams.proofs.Edits.{found_here}
use Rattle.node_streams.proofs.streams.streams_at.Goals as goal

pub returns : goal.returns
returns g c = found_here c.args.node.now c.args.nodes.now c.place_of.result c.index-nodes-place_of.result c.place_of.ensures c.index-nodes-place_of.is
