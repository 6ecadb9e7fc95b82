use Rattle.std.proofs.Common.{◌<◌, ◌-◌, ◌^◌, ap, sym, ◌∙◌, subst, arith}
use Rattle.cl_types.specs.Addr.{width_of}
use Rattle.cl_types.proofs.Remaining.{block_len, index_fits}
use Rattle.cl_types.proofs.blocks.whole_of.Goals as goal

pub returns-clause-fits : goal.returns-clause-fits
returns-clause-fits c =
    let len = c.p.inside.len in
    let low = block_len c.p.inside.base len c.p.invariant in
    let width = c.width.ensures in
    let base = ap (λ b. width_of b.base) c.p.view_is in
    let fits = index_fits c.width.result len c.number.result (omega (arith, low, width)) (subst (λ w. c.number.result < 2 ^ w) (sym width) c.number.ensures.small) in
    subst (λ w. c.above.result < 2 ^ (w - (c.width.result - len))) (width ∙ base) (omega (arith, c.above.ensures, fits))
