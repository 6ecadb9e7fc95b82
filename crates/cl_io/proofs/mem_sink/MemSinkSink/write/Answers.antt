use Rattle.std.proofs.Common.{◌≡◌, Some, ap, arith}
use Rattle.std.proofs.lemmas.Bool.Decides.{nat_tests}
use Rattle.cl_io.proofs.InMemory.{Fails-stopped}
use Rattle.cl_io.proofs.mem_sink.MemSinkSink.write.Goals as goal

pub returns-then-count-eq0-clause-succeeds : goal.returns-then-count-eq0-clause-succeeds
returns-then-count-eq0-clause-succeeds c = λ steady room.
    let none : c.min-count.result ≡ 0 = grind (arith, nat_tests, c.if-count-eq0.true) in
    absurd (omega (arith, none, room, c.min.ensures, c.from.ensures, c.min-count.ensures, c.requires, c.args.self.now.some))

pub returns-then-count-eq0-clause-fails : goal.returns-then-count-eq0-clause-fails
returns-then-count-eq0-clause-fails c =
    let none : c.min-count.result ≡ 0 = grind (arith, nat_tests, c.if-count-eq0.true) in
    let room : c.args.self.now.room ≡ 0 = omega (arith, none, c.min.ensures, c.from.ensures, c.min-count.ensures, c.requires, c.args.self.now.some) in
    Fails-stopped _ _ _ _ (ap Some room)
