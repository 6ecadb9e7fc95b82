use Rattle.std.proofs.Common.{◌≡◌, length, take as first, ap, subst, arith}
use Rattle.run_machine.specs.Lines.{every_stream}
use Rattle.suite_run.specs.Delivering.{on_nodes}
use Rattle.suite_run.specs.Doing.{node_names}
use Rattle.suite_run.specs.Resting.{settling_on}
use Rattle.suite_run.specs.RunState.{RunData}
use Rattle.suite_run.proofs.Matched.{settled_all}
use Rattle.suite_run.proofs.Parts.{settling_of}
use Rattle.suite_run.proofs.Placing.{agents_are_sites, names_within}
use Rattle.suite_run.proofs.Rounds.{AscendNames, all_done, done_of, one_more, run_ascends, run_names}
use Rattle.suite_run.proofs.run.Run.settle.Goals as goal

pub settle_at-requires : goal.settle_at-requires
settle_at-requires c =
    let same = run_names (on_nodes settling_on every_stream c.args.self.now.sites (first c.loop-i.i (node_names c.args.self.now.sites))) c.args.self.now c.loop-i.self c.loop-i.invariant in
    let agents : length (node_names c.args.self.now.sites) ≡ length c.self.inside.agents.items =
    subst (λ (r : RunData). length (node_names r.sites) ≡ length c.self.inside.agents.items) c.self.view_is
    (agents_are_sites c.self.inside.controller c.self.inside.agents.items c.keeps_its_form.ensures c.self.invariant.agents) in
    names_within c.loop-i.self.sites c.loop-i.i (omega (arith, ap length same, agents, c.self.inside.agents.ok.0))

pub loop-i-preserved : goal.loop-i-preserved
loop-i-preserved c =
    let same = run_names (on_nodes settling_on every_stream c.args.self.now.sites (first c.loop-i.i (node_names c.args.self.now.sites))) c.args.self.now c.loop-i.self c.loop-i.invariant in
    let agents : length (node_names c.args.self.now.sites) ≡ length c.self.inside.agents.items =
    subst (λ (r : RunData). length (node_names r.sites) ≡ length c.self.inside.agents.items) c.self.view_is
    (agents_are_sites c.self.inside.controller c.self.inside.agents.items c.keeps_its_form.ensures c.self.invariant.agents) in
    let up : AscendNames (node_names c.args.self.now.sites) =
    subst (λ (r : RunData). AscendNames (node_names r.sites)) c.self.view_is (run_ascends c.self.inside.controller c.self.inside.agents.items c.self.invariant.agents c.keeps_its_form.ensures.ascend) in
    (one_more settling_on settling_of every_stream c.args.self.now up c.loop-i.self c.settle_at.new.self c.loop-i.i _ _
    (omega (arith, agents, c.self.inside.agents.ok.0)) same (done_of _ c.args.self.now c.loop-i.self c.loop-i.invariant) (done_of _ c.loop-i.self c.settle_at.new.self c.in_ok-settle_at.ensures)).run

pub returns : goal.returns
returns c =
    let agents : length (node_names c.args.self.now.sites) ≡ length c.self.inside.agents.items =
    subst (λ (r : RunData). length (node_names r.sites) ≡ length c.self.inside.agents.items) c.self.view_is
    (agents_are_sites c.self.inside.controller c.self.inside.agents.items c.keeps_its_form.ensures c.self.invariant.agents) in
    let up : AscendNames (node_names c.args.self.now.sites) =
    subst (λ (r : RunData). AscendNames (node_names r.sites)) c.self.view_is (run_ascends c.self.inside.controller c.self.inside.agents.items c.self.invariant.agents c.keeps_its_form.ensures.ascend) in
    settled_all c.args.self.now c.loop-i.self up
    (all_done settling_on settling_of every_stream c.args.self.now up c.loop-i.self c.loop-i.i _
    (omega (arith, agents, c.self.inside.agents.ok.0)) (done_of _ c.args.self.now c.loop-i.self c.loop-i.invariant)).run
