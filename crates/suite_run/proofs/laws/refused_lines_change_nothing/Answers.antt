use Rattle.suite_run.proofs.RefusedLines.{refused_lines, refused_as_blank}
use Rattle.suite_run.proofs.laws.refused_lines_change_nothing.Goals as goal

pub returns : goal.returns
returns c = record { world = refused_lines; blocks = refused_as_blank }
