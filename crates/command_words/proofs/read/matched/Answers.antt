use Rattle.command_words.proofs.Matches.{is_bad}
use Rattle.command_words.proofs.read.matched.Goals as goal

pub returns-in-Err-clause-bad : goal.returns-in-Err-clause-bad
returns-in-Err-clause-bad c = λ is. is_bad _ c.in-Err.error (c.in-Err.ensures.kinds c.requires.free) (c.fault_of.ensures.bad is)
