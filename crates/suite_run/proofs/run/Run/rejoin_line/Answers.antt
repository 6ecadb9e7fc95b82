use Rattle.std.proofs.Common.{◌≡◌, true, false, refl}
use Rattle.suite_run.specs.Controls.{RunMakes, TellsRejoined}
use Rattle.suite_run.specs.Doing.{is_listed}
use Rattle.suite_run.specs.Shown.{outcome_of}
use Rattle.suite_run.specs.World.{rejoin_told}
use Rattle.suite_run.specs.declared.item.Item.TheVariants.{Rejoin}
use Rattle.suite_run.proofs.ControlSteps.{rejoined_step, unlisted}
use Rattle.suite_run.proofs.Matched.{if_ok}
use Rattle.suite_run.proofs.run.Run.rejoin_line.Goals as goal

pub returns-then-not-is_listed : goal.returns-then-not-is_listed
returns-then-not-is_listed c = λ w st.
    let off : is_listed c.args.node.now c.args.self.now.sites ≡ false = cc (c.if-not-is_listed.ensures) in
    unlisted c.args.self.now w st c.args.node.now (Rejoin c.args.node.now c.args.stream) (rejoin_told w c.args.stream) _ refl off refl

pub returns : goal.returns
returns c =
    let listed : is_listed c.args.node.now c.args.self.now.sites ≡ true = cc (c.if-not-is_listed.ensures) in
    if_ok c.rejoin_told.result (λ said. TellsRejoined c.rejoin.result (outcome_of said)) (RunMakes (Rejoin c.args.node.now c.args.stream) c.args.self.now c.rejoin.new.self)
    (λ said told w st. rejoined_step c.args.self.now w st c.args.node.now listed c.args.stream c.rejoin.result c.rejoin.new.self said c.rejoin.ensures.rejoins c.rejoin.ensures.does told)
    c.rejoin_told.ensures
