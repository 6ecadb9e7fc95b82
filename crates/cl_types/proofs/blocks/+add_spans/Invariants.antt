use Rattle.cl_types.proofs.blocks.+add_spans.Given as goal

abbrev pub decreases-add_spans : goal.decreases-add_spans
decreases-add_spans g l = l.span.height
