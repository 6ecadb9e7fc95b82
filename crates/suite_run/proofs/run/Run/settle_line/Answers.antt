use Rattle.std.proofs.Common.{ap}
use Rattle.suite_run.specs.World.{settled}
use Rattle.suite_run.proofs.ControlSteps.{settled_step}
use Rattle.suite_run.proofs.run.Run.settle_line.Goals as goal

pub returns : goal.returns
returns c = λ w st.
    settled_step c.args.self.now w st c.settle.new.self _ c.in_ok-settle.ensures (ap settled c.revision-revision.ensures)
