use Rattle.cl_types.specs.AscendingLaws.{found_in_gap}
use Rattle.group_index.specs.Index.{at_group}
use Rattle.group_index.proofs.entry.place_of.Goals as goal

pub returns-in-Err-clause-none : goal.returns-in-Err-clause-none
returns-in-Err-clause-none c =
    let gap = c.in-Err.ensures.absent in
    found_in_gap (at_group c.args.g.now) c.args.entries.now c.in-Err.field-0 gap.within gap.before gap.after
