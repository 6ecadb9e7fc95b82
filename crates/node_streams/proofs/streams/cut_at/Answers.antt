use Rattle.node_streams.specs.Streams.{IsCut}
use Rattle.node_streams.proofs.Edits.{changes_one}
use Rattle.node_streams.proofs.streams.cut_at.Goals as goal

pub returns : goal.returns
returns g c = changes_one c.args.node.now c.args.s (IsCut c.cut.result) c.args.nodes.now.items c.place_of-i.result c.index_mut.result.now c.cut.new.self (rw c.as_slice.ensures.value at c.place_of-i.ensures) c.index_mut.ensures.value c.cut.ensures.changes
