use Rattle.suite_run.proofs.Saying.{says_put}
use Rattle.suite_run.proofs.words.say.Goals as goal

pub returns : goal.returns
returns g c = says_put _ _ _ _ c.put.ensures.takes c.put.ensures.cause
