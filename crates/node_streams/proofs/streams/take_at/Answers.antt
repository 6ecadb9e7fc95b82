use Rattle.node_streams.specs.Streams.{TakesFrom}
use Rattle.node_streams.proofs.Edits.{changes_one}
use Rattle.node_streams.proofs.streams.take_at.Goals as goal

pub returns : goal.returns
returns c = changes_one c.args.node.now c.args.s (TakesFrom c.take.result) c.args.nodes.now.items c.place_of-i.result c.index_mut.result.now c.take.new.self (rw c.as_slice.ensures.value at c.place_of-i.ensures) c.index_mut.ensures.value c.take.ensures.changes
