use Rattle.std.proofs.Common.{refl, subst, sym}
use Rattle.suite_run.specs.World.{judged_at}
use Rattle.suite_run.specs.declared.item.Item.TheVariants.{Ask}
use Rattle.suite_run.proofs.ControlSteps.{IsBare, bare_unlisted}
use Rattle.suite_run.proofs.world.World.ask.Goals as goal

pub returns-in-Bare : goal.returns-in-Bare
returns-in-Bare c = bare_unlisted c.args.self.now (subst IsBare (sym c.in-Bare.is) tt) c.requires (Ask c.args.node.now c.args.question.now) c.args.node.now (λ w. judged_at w c.args.question.now) _ (λ w. refl) refl
