use Rattle.node_streams.proofs.Edits.{no_gap}
use Rattle.node_streams.proofs.streams.place_of.Goals as goal

pub returns-in-Err : goal.returns-in-Err
returns-in-Err g c = absurd (no_gap c.args.node.now c.args.nodes.now c.in-Err.i c.in-Err.ensures.absent c.requires.listed)
