use Rattle.std.proofs.Common.{refl, subst, sym}
use Rattle.suite_run.proofs.ControlSteps.{IsBare, bare_settled}
use Rattle.suite_run.proofs.world.World.settle.Goals as goal

pub returns-in-Bare : goal.returns-in-Bare
returns-in-Bare c = bare_settled c.args.self.now (subst IsBare (sym c.in-Bare.is) tt) c.requires _ refl
