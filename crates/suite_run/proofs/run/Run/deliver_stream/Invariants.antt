use Rattle.suite_run.specs.Doing.{stream_at}
use Rattle.suite_run.proofs.Parts.{TakenSoFar}
use Rattle.suite_run.proofs.run.Run.deliver_stream.Given as goal

-- as many messages were taken as the loop had turns
abbrev pub invariant-loop-taken : goal.invariant-loop-taken
invariant-loop-taken l = TakenSoFar (stream_at l.node l.stream) l.fn.self l.self l.taken
