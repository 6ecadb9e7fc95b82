use Rattle.cl_types.proofs.RoundTrip.{run_is_zero, longest_is}
use Rattle.cl_types.proofs.laws.gap_is_the_longest_run.Goals as goal

pub returns-clause-zeros : goal.returns-clause-zeros
returns-clause-zeros c = run_is_zero

pub returns-clause-longest : goal.returns-clause-longest
returns-clause-longest c = λ gs start len r. (longest_is gs start len r).0

pub returns-clause-first : goal.returns-clause-first
returns-clause-first c = λ gs start len r. (longest_is gs start len r).1
