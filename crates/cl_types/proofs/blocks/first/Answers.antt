use Rattle.cl_types.proofs.SpanBounds.{shifted_whole}
use Rattle.cl_types.proofs.blocks.first.Goals as goal

pub returns-else-span-eq128 : goal.returns-else-span-eq128
returns-else-span-eq128 c = shifted_whole c.args.span.height c.args.span.index c.requires.low c.requires.fits
