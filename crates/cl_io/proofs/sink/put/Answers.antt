use Rattle.std.proofs.Common.{rules}
use Rattle.cl_io.proofs.Putting.{Putting-more, Putting-succeeds, Putting-unfailing, Takes-part}
use Rattle.cl_io.proofs.sink.put.Goals as goal

pub loop-rest-preserved : goal.loop-rest-preserved
loop-rest-preserved g c =
    let w = c.in_ok-count.ensures in
    Putting-more _ _ _ _ _ _ _ c.loop-rest.invariant w.writes w.endures w.succeeds (search rules)

pub returns-in_err-count-clause-takes : goal.returns-in_err-count-clause-takes
returns-in_err-count-clause-takes g c =
    Takes-part _ _ _ _ _ _ c.loop-rest.invariant (search rules) c.in_err-count.ensures.writes_nothing

pub returns-in_err-count-clause-succeeds : goal.returns-in_err-count-clause-succeeds
returns-in_err-count-clause-succeeds g c = Putting-unfailing _ (g.O.Sink.state c.loop-rest.out) (g.O.Sink.state c.write.new.self) _ _ _ _ c.loop-rest.invariant (search rules) (search rules) c.in_err-count.ensures.succeeds

pub returns-clause-succeeds : goal.returns-clause-succeeds
returns-clause-succeeds g c = Putting-succeeds _ _ _ _ _ c.loop-rest.invariant
