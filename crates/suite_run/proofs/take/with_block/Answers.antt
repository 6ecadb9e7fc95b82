use Rattle.suite_run.proofs.LineSteps.{shown}
use Rattle.suite_run.proofs.take.with_block.Goals as goal

pub returns : goal.returns
returns c = λ item old makes w st.
    shown item old c.args.world c.args.said c.args.number c.in_ok-block.block makes c.in_ok-block.ensures.text c.in_ok-block.ensures.refusal w st
