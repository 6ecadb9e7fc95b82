use Rattle.std.proofs.Common.{◌≡◌, true, subst, sym}
use Rattle.suite_run.specs.Cutting.{Rejoins}
use Rattle.suite_run.specs.Doing.{is_listed, node_names, stream_at}
use Rattle.suite_run.specs.RunState.{RunData, run_of}
use Rattle.suite_run.proofs.Filled.{line_done}
use Rattle.suite_run.proofs.Moves.{rejoined_run, still_rejoined}
use Rattle.suite_run.proofs.Placing.{listed_streams}
use Rattle.suite_run.proofs.Rounds.{AscendNames, run_ascends}
use Rattle.suite_run.proofs.run.Run.rejoin.Goals as goal

pub rejoin-requires-clause-listed : goal.rejoin-requires-clause-listed
rejoin-requires-clause-listed c =
    listed_streams c.self.inside.controller c.self.inside.agents.items c.keeps_its_form.ensures c.self.invariant.agents c.args.node.now
    (subst (λ (r : RunData). is_listed c.args.node.now r.sites ≡ true) (sym c.self.view_is) c.requires)

pub invariant_of-self : goal.invariant_of-self
invariant_of-self c =
    still_rejoined c.self.inside.controller c.rejoin.new.self c.self.inside.agents.items c.self.inside.ring c.keeps_its_form.ensures c.self.invariant c.args.node.now c.args.stream c.rejoin.result c.rejoin.ensures

pub returns-clause-rejoins : goal.returns-clause-rejoins
returns-clause-rejoins c =
    subst (λ (r : RunData). Rejoins (stream_at c.args.node.now c.args.stream) c.rejoin.result r (run_of c.rejoin.new.self c.self.inside.agents.items c.self.inside.ring)) c.self.view_is
    (rejoined_run c.self.inside.controller c.rejoin.new.self c.self.inside.agents.items c.self.inside.ring c.keeps_its_form.ensures c.self.invariant c.args.node.now c.args.stream c.rejoin.result c.rejoin.ensures)

pub returns-clause-does : goal.returns-clause-does
returns-clause-does c =
    let up : AscendNames (node_names c.args.self.now.sites) =
    subst (λ (r : RunData). AscendNames (node_names r.sites)) c.self.view_is (run_ascends c.self.inside.controller c.self.inside.agents.items c.self.invariant.agents c.keeps_its_form.ensures.ascend) in
    line_done (stream_at c.args.node.now c.args.stream) c.args.self.now up c.requires c.rejoin.result _ (returns-clause-rejoins c)
