use Rattle.std.proofs.Common.{length}
use Rattle.cl_io.proofs.Putting.{Putting}
use Rattle.cl_io.proofs.sink.put.Given as goal

-- so far the bytes but for the rest were taken
abbrev pub invariant-loop-rest : goal.invariant-loop-rest
invariant-loop-rest g l = Putting (g.O.Sink.state l.initial.out) (g.O.Sink.state l.out) l.bytes l.rest

abbrev pub decreases-loop-rest : goal.decreases-loop-rest
decreases-loop-rest g l = length l.rest
