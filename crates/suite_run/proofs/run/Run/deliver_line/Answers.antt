use Rattle.std.proofs.Common.{◌≡◌, true, false, refl, option_copied}
use Rattle.suite_run.specs.Controls.{is_served}
use Rattle.suite_run.proofs.ControlSteps.{delivered_line, named_listed, unserved}
use Rattle.suite_run.proofs.run.Run.deliver_line.Goals as goal

pub deliver-requires : goal.deliver-requires
deliver-requires c =
    let served : is_served (option_copied c.args.node) c.args.self.now.sites ≡ true = cc (c.if-not-is_served.ensures) in
    named_listed c.args.node c.args.self.now.sites served

pub returns-then-not-is_served : goal.returns-then-not-is_served
returns-then-not-is_served c = λ w st.
    let off : is_served (option_copied c.args.node) c.args.self.now.sites ≡ false = cc (c.if-not-is_served.ensures) in
    unserved c.args.self.now w st (option_copied c.args.node) c.args.stream c.args.count _ off refl

pub returns : goal.returns
returns c = λ w st.
    let served : is_served (option_copied c.args.node) c.args.self.now.sites ≡ true = cc (c.if-not-is_served.ensures) in
    delivered_line c.args.self.now w st (option_copied c.args.node) c.args.stream c.args.count c.deliver.new.self c.in_ok-deliver.field-0 _ served c.in_ok-deliver.ensures refl
