use Rattle.node_streams.specs.Streams.{Begins}
use Rattle.node_streams.proofs.Edits.{changes_one, live_here}
use Rattle.node_streams.proofs.streams.begin_at.Goals as goal

pub returns : goal.returns
returns g c = changes_one c.args.node.now c.args.s (Begins g.P.Port.state g.P.Port.same c.args.m c.begin.result) c.args.nodes.now.items c.place_of-i.result c.index_mut.result.now c.begin.new.self (rw c.as_slice.ensures.value at c.place_of-i.ensures) c.index_mut.ensures.value c.begin.ensures.changes

pub begin-requires : goal.begin-requires
begin-requires g c = live_here c.args.node.now c.args.s _ c.args.nodes.now.items c.place_of-i.result c.index_mut.result.now (rw c.as_slice.ensures.value at c.place_of-i.ensures) c.index_mut.ensures.value c.requires.cut
