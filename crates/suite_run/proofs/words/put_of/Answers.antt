use Rattle.std.proofs.Common.{refl}
use Rattle.suite_run.proofs.Saying.{says_put, says_part, says_then}
use Rattle.suite_run.proofs.words.put_of.Goals as goal

pub returns-in_err-put : goal.returns-in_err-put
returns-in_err-put g c = says_part _ _ _ _ _ c.in_err-put.ensures.takes refl c.in_err-put.ensures.cause

pub returns-in_err-put-2 : goal.returns-in_err-put-2
returns-in_err-put-2 g c =
    says_then _ _ _ _ _ _ c.in_ok-put.ensures.takes refl c.in_ok-put.ensures.endures.later
    (says_part _ _ _ _ _ c.in_err-put-2.ensures.takes refl c.in_err-put-2.ensures.cause)

pub returns : goal.returns
returns g c =
    says_then _ _ _ _ _ _ c.in_ok-put.ensures.takes refl c.in_ok-put.ensures.endures.later
    (says_then _ _ _ _ _ _ c.in_ok-put-2.ensures.takes refl c.in_ok-put-2.ensures.endures.later
    (says_put _ _ _ _ c.put-3.ensures.takes c.put-3.ensures.cause))
