use Rattle.std.proofs.Common.{◌≡◌, length, take as first, ap, subst, sym, arith}
use Rattle.suite_run.specs.Delivering.{HasDone, delivering_on, meant_streams, on_nodes}
use Rattle.suite_run.specs.Doing.{node_names}
use Rattle.suite_run.specs.RunState.{RunData}
use Rattle.suite_run.proofs.Parts.{delivering_of}
use Rattle.suite_run.proofs.Placing.{agents_are_sites, names_within}
use Rattle.suite_run.proofs.Rounds.{AscendNames, all_done, done_names, one_more, run_ascends}
use Rattle.suite_run.proofs.run.Run.deliver_all.Goals as goal

pub deliver_at-requires : goal.deliver_at-requires
deliver_at-requires c =
    let same = done_names _ c.args.self.now c.loop-i.self _ c.loop-i.invariant in
    let agents : length (node_names c.args.self.now.sites) ≡ length c.self.inside.agents.items =
    subst (λ (r : RunData). length (node_names r.sites) ≡ length c.self.inside.agents.items) c.self.view_is
    (agents_are_sites c.self.inside.controller c.self.inside.agents.items c.keeps_its_form.ensures c.self.invariant.agents) in
    names_within c.loop-i.self.sites c.loop-i.i (omega (arith, ap length same, agents, c.self.inside.agents.ok.0))

pub loop-i-preserved : goal.loop-i-preserved
loop-i-preserved c =
    let same = done_names _ c.args.self.now c.loop-i.self _ c.loop-i.invariant in
    let agents : length (node_names c.args.self.now.sites) ≡ length c.self.inside.agents.items =
    subst (λ (r : RunData). length (node_names r.sites) ≡ length c.self.inside.agents.items) c.self.view_is
    (agents_are_sites c.self.inside.controller c.self.inside.agents.items c.keeps_its_form.ensures c.self.invariant.agents) in
    let up : AscendNames (node_names c.args.self.now.sites) =
    subst (λ (r : RunData). AscendNames (node_names r.sites)) c.self.view_is (run_ascends c.self.inside.controller c.self.inside.agents.items c.self.invariant.agents c.keeps_its_form.ensures.ascend) in
    subst (HasDone (on_nodes (delivering_on c.args.count) (meant_streams c.args.stream) c.args.self.now.sites (first _ (node_names c.args.self.now.sites))) c.args.self.now c.deliver_at.new.self) (sym c.in_ok-delivered.ensures)
    (one_more (delivering_on c.args.count) (delivering_of c.args.count) (meant_streams c.args.stream) c.args.self.now up c.loop-i.self c.deliver_at.new.self c.loop-i.i _ _
    (omega (arith, agents, c.self.inside.agents.ok.0)) same c.loop-i.invariant c.in_ok-deliver_at.ensures)

pub returns : goal.returns
returns c =
    let agents : length (node_names c.args.self.now.sites) ≡ length c.self.inside.agents.items =
    subst (λ (r : RunData). length (node_names r.sites) ≡ length c.self.inside.agents.items) c.self.view_is
    (agents_are_sites c.self.inside.controller c.self.inside.agents.items c.keeps_its_form.ensures c.self.invariant.agents) in
    let up : AscendNames (node_names c.args.self.now.sites) =
    subst (λ (r : RunData). AscendNames (node_names r.sites)) c.self.view_is (run_ascends c.self.inside.controller c.self.inside.agents.items c.self.invariant.agents c.keeps_its_form.ensures.ascend) in
    all_done (delivering_on c.args.count) (delivering_of c.args.count) (meant_streams c.args.stream) c.args.self.now up c.loop-i.self c.loop-i.i c.loop-i.delivered
    (omega (arith, agents, c.self.inside.agents.ok.0)) c.loop-i.invariant
