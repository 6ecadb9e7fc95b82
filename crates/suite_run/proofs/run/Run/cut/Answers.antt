use Rattle.std.proofs.Common.{◌≡◌, true, refl, ap, subst, sym, ◌∙◌}
use Rattle.node_streams.specs.Streams.{IsCut}
use Rattle.run_machine.specs.Machine.{cut}
use Rattle.suite_run.specs.Doing.{channel_at, is_listed, run_after, stream_at}
use Rattle.suite_run.specs.RunState.{RunData}
use Rattle.suite_run.proofs.Changed.{still_run}
use Rattle.suite_run.proofs.Moves.{cut_ring, cut_run, cut_was}
use Rattle.suite_run.proofs.Placing.{listed_streams}
use Rattle.suite_run.proofs.Standing.{does_one}
use Rattle.suite_run.proofs.run.Run.cut.Goals as goal

pub cut-requires-clause-listed : goal.cut-requires-clause-listed
cut-requires-clause-listed c =
    listed_streams c.self.inside.controller c.self.inside.agents.items c.keeps_its_form.ensures c.self.invariant.agents c.args.node.now
    (subst (λ (r : RunData). is_listed c.args.node.now r.sites ≡ true) (sym c.self.view_is) c.requires)

pub invariant_of-self : goal.invariant_of-self
invariant_of-self c =
    still_run c.args.node.now c.args.stream (IsCut c.cut.result) c.self.inside.controller c.cut.new.self c.cut.ensures c.self.inside.agents.items c.self.inside.agents.items c.self.inside.ring
    (cut_ring c.cut.result) refl c.self.invariant

pub returns-clause-cut : goal.returns-clause-cut
returns-clause-cut c =
    cut_run c.self.inside.controller c.cut.new.self c.self.inside.agents.items c.self.inside.ring c.keeps_its_form.ensures c.self.invariant c.args.node.now c.args.stream c.cut.result c.cut.ensures
    ∙ ap (run_after (cut (stream_at c.args.node.now c.args.stream))) c.self.view_is

pub returns-clause-does : goal.returns-clause-does
returns-clause-does c = does_one (cut (stream_at c.args.node.now c.args.stream)) c.args.self.now _ tt (returns-clause-cut c)

pub returns-clause-was : goal.returns-clause-was
returns-clause-was c =
    cut_was c.self.inside.controller c.cut.new.self c.self.inside.agents.items c.self.inside.ring c.keeps_its_form.ensures c.self.invariant c.args.node.now c.args.stream c.cut.result c.cut.ensures
    ∙ ap (λ (r : RunData). (channel_at (stream_at c.args.node.now c.args.stream) r.sites).live) c.self.view_is
