use Rattle.std.proofs.Common.{arith}
use Rattle.cl_types.proofs.Numerals.{small_value}
use Rattle.cl_types.proofs.reading.group.Goals as goal

pub overflow_cast-result : goal.overflow_cast-result
overflow_cast-result c =
    let found = c.in_ok-n.ensures.found in
    omega (arith, found.1, small_value 16 4 c.args.text.now (omega arith) found.0 (omega arith))
