use Rattle.suite_run.proofs.LineEvents.{keeps_run, takes_line}
use Rattle.suite_run.proofs.run.Run.line.Goals as goal

pub invariant_of-run : goal.invariant_of-run
invariant_of-run c =
    keeps_run c.args.changes _ c.line.new.self c.self.inside.agents.items c.self.inside.ring c.keeps_its_form.ensures c.keeps_its_form-2.ensures c.self.invariant
    c.line.result c.in_ok-answer.answer c.in_ok-answer.ensures c.line.ensures

pub returns : goal.returns
returns c =
    takes_line c.args.changes _ c.line.new.self c.self.inside.agents.items c.self.inside.ring c.keeps_its_form.ensures c.keeps_its_form-2.ensures c.self.invariant
    c.line.result c.in_ok-answer.answer c.args.self c.self.view_is c.in_ok-answer.ensures c.line.ensures
