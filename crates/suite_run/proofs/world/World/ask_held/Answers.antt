use Rattle.std.proofs.Common.{refl, subst, sym}
use Rattle.suite_run.specs.World.{answered_at}
use Rattle.suite_run.specs.declared.item.Item.TheVariants.{AskHeld}
use Rattle.suite_run.proofs.ControlSteps.{IsBare, bare_unlisted}
use Rattle.suite_run.proofs.world.World.ask_held.Goals as goal

pub returns-in-Bare : goal.returns-in-Bare
returns-in-Bare c = bare_unlisted c.args.self.now (subst IsBare (sym c.in-Bare.is) tt) c.requires (AskHeld c.args.node c.args.question.now) c.args.node (λ w. answered_at c.args.question.now) _ (λ w. refl) refl
