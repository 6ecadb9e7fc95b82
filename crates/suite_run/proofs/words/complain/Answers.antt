use Rattle.std.proofs.Common.{sym, subst}
use Rattle.suite_run.specs.declared.status.Status.{Status}
use Rattle.suite_run.specs.Words.{Says, complaint}
use Rattle.suite_run.proofs.words.complain.Goals as goal

pub returns-in-BadWords : goal.returns-in-BadWords
unfolding complaint
returns-in-BadWords g c =
    let P : Status → Type 0 = λ z. Says (complaint z c.args.name.now) (g.E.Sink.state c.args.err.now) (g.E.Sink.state c.say.new.err) in
    subst P (sym c.in-BadWords.is) c.say.ensures

pub returns-in-InputTooLong : goal.returns-in-InputTooLong
unfolding complaint
returns-in-InputTooLong g c =
    let P : Status → Type 0 = λ z. Says (complaint z c.args.name.now) (g.E.Sink.state c.args.err.now) (g.E.Sink.state c.say-in-InputTooLong.new.err) in
    subst P (sym c.in-InputTooLong.is) c.say-in-InputTooLong.ensures
