use Rattle.std.proofs.Common.{◌≡◌, true, false, refl, ap, ◌∙◌}
use Rattle.cl_types.specs.Judgement.{judgement_of}
use Rattle.cluster_types.specs.Evaluation.{side}
use Rattle.suite_run.specs.Doing.{is_listed}
use Rattle.suite_run.specs.World.{judged, judged_at}
use Rattle.suite_run.specs.declared.item.Item.TheVariants.{Ask}
use Rattle.suite_run.proofs.ControlSteps.{judged_step, unlisted}
use Rattle.suite_run.proofs.run.Run.ask.Goals as goal

pub returns-then-not-is_listed : goal.returns-then-not-is_listed
returns-then-not-is_listed c = λ w st.
    let off : is_listed c.args.node.now c.args.self.now.sites ≡ false = cc (c.if-not-is_listed.ensures) in
    unlisted c.args.self.now w st c.args.node.now (Ask c.args.node.now c.args.question.now) (judged_at w c.args.question.now) _ refl off refl

pub returns : goal.returns
returns c = λ w st.
    let listed : is_listed c.args.node.now c.args.self.now.sites ≡ true = cc (c.if-not-is_listed.ensures) in
    let judgement : judgement_of c.judge.result ≡ side c.args.self.now.cluster c.args.node.now c.args.question.now =
    c.judge.ensures ∙ ap (λ cluster. side cluster c.args.node.now c.args.question.now) c.cluster.ensures in
    judged_step c.args.self.now w st c.args.node.now listed c.args.question.now (judgement_of c.judge.result) _ judgement
    (ap (λ r. judged r (judgement_of c.judge.result)) c.revision.ensures)
