use Rattle.suite_run.proofs.Running.{Running}
use Rattle.suite_run.proofs.replay.replay.Given as goal

-- the blocks of the lines so far were written
abbrev pub invariant-loop-number : goal.invariant-loop-number
invariant-loop-number g l =
    Running l.initial.command l.initial.lines.names (g.F.Files.state l.initial.files) (g.O.Sink.state l.initial.out) l.lines (g.F.Files.state l.files) (g.O.Sink.state l.out) l.world l.refused l.number
