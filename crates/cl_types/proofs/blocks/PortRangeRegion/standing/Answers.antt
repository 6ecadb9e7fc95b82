use Rattle.std.proofs.Common.{arith}
use Rattle.cl_types.proofs.SpanBounds.{mixed_ports}
use Rattle.cl_types.proofs.blocks.PortRangeRegion.standing.Goals as goal
use Rattle.cl_types.proofs.blocks.PortRangeRegion.standing.Goals.{else-lo-least-via-then-lo-least+else-greatest-hi, else-lo-least-via-else-lo-least}

pub returns-else-lo-least : goal.returns-else-lo-least
returns-else-lo-least c =
    mixed_ports c.args.span c.args.self.now.lo c.args.self.now.hi c.first-least.result c.last-greatest.result c.first-least.ensures c.last-greatest.ensures (omega (arith, c.from-lo.ensures)) (omega (arith, c.from-hi.ensures))
    (λ low high. elim c.else-lo-least.branch [
      | else-lo-least-via-then-lo-least+else-greatest-hi w ↦ omega (arith, c.from-hi.ensures)
      | else-lo-least-via-else-lo-least w ↦ omega (arith, c.from-lo.ensures)
    ])
