use Rattle.std.proofs.Common.{arith}
use Rattle.cl_types.proofs.Addresses.{shifted, around_fits}
use Rattle.cl_types.proofs.reading.around_gap.Goals as goal

pub overflow_add-result : goal.overflow_add-result
overflow_add-result c =
    let front = c.args.front in
    let back = c.args.back in
    omega (arith, shifted front.number front.count (omega arith) c.requires.front_below, around_fits front.number front.count back.number back.count c.requires.gap c.requires.front_below c.requires.back_below)

pub returns : goal.returns
returns c =
    let front = c.args.front in
    omega (arith, shifted front.number front.count (omega arith) c.requires.front_below)
