use Rattle.std.proofs.Common.{◌≡◌, true, false, refl}
use Rattle.suite_run.specs.Doing.{is_listed}
use Rattle.suite_run.specs.World.{cut_told}
use Rattle.suite_run.specs.declared.item.Item.TheVariants.{Cut}
use Rattle.suite_run.proofs.ControlSteps.{cut_step, unlisted}
use Rattle.suite_run.proofs.run.Run.cut_line.Goals as goal

pub returns-then-not-is_listed : goal.returns-then-not-is_listed
returns-then-not-is_listed c = λ w st.
    let off : is_listed c.args.node.now c.args.self.now.sites ≡ false = cc (c.if-not-is_listed.ensures) in
    unlisted c.args.self.now w st c.args.node.now (Cut c.args.node.now c.args.stream) (cut_told c.args.stream) _ refl off refl

pub returns : goal.returns
returns c = λ w st.
    let listed : is_listed c.args.node.now c.args.self.now.sites ≡ true = cc (c.if-not-is_listed.ensures) in
    cut_step c.args.self.now w st c.args.node.now listed c.args.stream c.cut.result c.cut.new.self _ c.cut.ensures.was c.cut.ensures.does c.cut_told.ensures
