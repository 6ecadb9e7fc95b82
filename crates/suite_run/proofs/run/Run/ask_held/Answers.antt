use Rattle.std.proofs.Common.{◌≡◌, true, false, refl}
use Rattle.cl_types.specs.Judgement.{judgement_of}
use Rattle.suite_run.specs.Doing.{is_listed}
use Rattle.suite_run.specs.World.{answered_at}
use Rattle.suite_run.specs.declared.item.Item.TheVariants.{AskHeld}
use Rattle.suite_run.proofs.ControlSteps.{answered_step, unlisted}
use Rattle.suite_run.proofs.run.Run.ask_held.Goals as goal

pub held_judgement-requires : goal.held_judgement-requires
held_judgement-requires c = cc (c.if-not-is_listed.ensures)

pub returns-then-not-is_listed : goal.returns-then-not-is_listed
returns-then-not-is_listed c = λ w st.
    let off : is_listed c.args.node c.args.self.now.sites ≡ false = cc (c.if-not-is_listed.ensures) in
    unlisted c.args.self.now w st c.args.node (AskHeld c.args.node c.args.question.now) (answered_at c.args.question.now) _ refl off refl

pub returns : goal.returns
returns c = λ w st.
    let listed : is_listed c.args.node c.args.self.now.sites ≡ true = cc (c.if-not-is_listed.ensures) in
    answered_step c.args.self.now w st c.args.node listed c.args.question.now _ (judgement_of c.held_judgement.result.1) _ c.held_judgement.ensures refl
