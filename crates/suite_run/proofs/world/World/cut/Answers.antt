use Rattle.std.proofs.Common.{refl, subst, sym}
use Rattle.suite_run.specs.World.{cut_told}
use Rattle.suite_run.specs.declared.item.Item.TheVariants.{Cut}
use Rattle.suite_run.proofs.ControlSteps.{IsBare, bare_unlisted}
use Rattle.suite_run.proofs.world.World.cut.Goals as goal

pub returns-in-Bare : goal.returns-in-Bare
returns-in-Bare c = bare_unlisted c.args.self.now (subst IsBare (sym c.in-Bare.is) tt) c.requires (Cut c.args.node.now c.args.stream) c.args.node.now (λ w. cut_told c.args.stream) _ (λ w. refl) refl
