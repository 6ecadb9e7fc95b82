use Rattle.cl_io.specs.Steps.{steps_left}
use Rattle.cl_io.proofs.Nexting.{Going}
use Rattle.cl_io.proofs.lines.Lines.next.Given as goal

-- the front of a line was read since the call began
abbrev pub invariant-loop-front : goal.invariant-loop-front
invariant-loop-front g l = Going l.initial.self (g.F.Files.state l.initial.files) l.self (g.F.Files.state l.files) l.front

abbrev pub decreases-loop-front : goal.decreases-loop-front
decreases-loop-front g l = steps_left l.self
