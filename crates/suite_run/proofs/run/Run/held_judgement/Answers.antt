use Rattle.std.proofs.Common.{map, ap, subst, sym, arith}
use Rattle.cl_types.specs.declared.stream.Rev.{Rev}
use Rattle.cl_types.specs.Judgement.{judgement_of}
use Rattle.suite_run.specs.Answering.{AnswersOf}
use Rattle.suite_run.specs.Doing.{NameAt, node_names}
use Rattle.suite_run.specs.RunState.{RunData, site_of}
use Rattle.suite_run.proofs.Changed.{agent_site}
use Rattle.suite_run.proofs.Placing.{place_within, site_names}
use Rattle.suite_run.proofs.run.Run.held_judgement.Goals as goal

pub index-held-requires : goal.index-held-requires
index-held-requires c =
    let within = place_within c.self.inside.controller c.self.inside.agents.items c.self.invariant.agents c.args.node.now c.place.result
    (subst (λ (r : RunData). NameAt (node_names r.sites) c.place.result c.args.node.now) (sym c.self.view_is) c.place.ensures) in
    omega (arith, within, c.self.inside.agents.ok.0)

pub returns : goal.returns
returns c =
    let known = c.self.inside.controller in
    let named = subst (λ (r : RunData). NameAt (node_names r.sites) c.place.result c.args.node.now) (sym c.self.view_is) c.place.ensures in
    let site = agent_site c.args.node.now known.nodes c.self.inside.agents.items c.place.result c.index-held.result.now c.keeps_its_form.ensures.ascend c.self.invariant.agents
    (subst (λ names. NameAt names c.place.result c.args.node.now) (site_names known.nodes c.self.inside.agents.items c.self.invariant.agents) named) c.index-held.ensures in
    subst (λ (r : RunData). AnswersOf c.args.node.now c.args.question.now r.sites c.revisions.result (judgement_of c.judge.result)) c.self.view_is
    (record {
      site = site_of site.0 c.index-held.result.now;
      stands = site.1;
      numbers = ap (map (λ (rev : Rev). rev.0)) c.revisions.ensures;
      judged = c.judge.ensures;
    })
