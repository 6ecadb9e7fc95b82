use Rattle.std.proofs.lemmas.Result.{IfOk-weaker}
use Rattle.std.proofs.Common.{subst}
use Rattle.suite_run.specs.Fixing.{StandsFor}
use Rattle.suite_run.proofs.world.World.change.Goals as goal

pub returns-in-Bare : goal.returns-in-Bare
returns-in-Bare c = IfOk-weaker c.change_bare.result _ _ (λ told steps. λ w st. steps w (subst (λ e. StandsFor c.args.self.ring e w) c.in-Bare.is st)) c.change_bare.ensures
