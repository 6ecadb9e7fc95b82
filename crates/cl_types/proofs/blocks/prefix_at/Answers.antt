use Rattle.std.proofs.Common.{arith}
use Rattle.cl_types.proofs.SpanBounds.{begins_below, fits_wider}
use Rattle.cl_types.proofs.blocks.prefix_at.Goals as goal

pub first-requires-clause-fits : goal.first-requires-clause-fits
first-requires-clause-fits c = fits_wider 32 c.args.span.height c.args.span.index (omega arith) (rw c.in-V4.is at c.requires.fits)

pub overflow_cast-first : goal.overflow_cast-first
overflow_cast-first c = omega (arith, c.first.ensures, begins_below 32 c.args.span.height c.args.span.index (rw c.in-V4.is at c.requires.low) (rw c.in-V4.is at c.requires.fits))
