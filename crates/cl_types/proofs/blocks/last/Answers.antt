use Rattle.std.proofs.Common.{arith}
use Rattle.std.proofs.lemmas.Nat.{one_shl}
use Rattle.cl_types.proofs.SpanBounds.{ends_within}
use Rattle.cl_types.proofs.blocks.last.Goals as goal

pub overflow_add-result : goal.overflow_add-result
overflow_add-result c =
    let span = c.args.span in
    omega (arith, c.first.ensures, one_shl span.height 128 (omega arith), ends_within 128 span.height span.index c.requires.low c.requires.fits)
