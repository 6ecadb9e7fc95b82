use Rattle.std.proofs.Common.{◌≡◌, true, false, is_some, refl, subst, sym}
use Rattle.suite_run.proofs.ControlSteps.{IsBare, bare_all, bare_named}
use Rattle.suite_run.proofs.world.World.deliver.Goals as goal

pub returns-in-Bare : goal.returns-in-Bare
returns-in-Bare c =
    let named : is_some c.args.node ≡ true = cc (c.if-is_some.ensures) in
    bare_named c.args.self.now (subst IsBare (sym c.in-Bare.is) tt) c.requires c.args.node c.args.stream c.args.count _ named refl

pub returns-in-Bare-2 : goal.returns-in-Bare-2
returns-in-Bare-2 c =
    let none : is_some c.args.node ≡ false = cc (c.if-is_some.ensures) in
    bare_all c.args.self.now (subst IsBare (sym c.in-Bare.is) tt) c.requires c.args.node c.args.stream c.args.count _ none refl
