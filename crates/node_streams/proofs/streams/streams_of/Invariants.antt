use Rattle.std.proofs.Common.{◌≡◌}
use Rattle.node_streams.specs.Streams.{first_streams}
use Rattle.node_streams.proofs.streams.streams_of.Given as goal

-- the streams of the nodes whose ports were taken so far
abbrev pub invariant-loop-trio : goal.invariant-loop-trio
invariant-loop-trio g l = l.nodes.items ≡ first_streams l.infos l.yielded
