use Rattle.std.proofs.Common.{◌≡◌, ◌+◌, ◌-◌, arith}
use Rattle.cl_types.proofs.Spans.{half_fits, lower_part, upper_part, wider_lower, wider_upper, append_halves}
use Rattle.cl_types.proofs.blocks.+add_spans.Goals as goal

pub overflow_mul-index : goal.overflow_mul-index
overflow_mul-index g t c =
    let span = c.args.span in
    let above : span.height ≡ span.height - 1 + 1 = omega (arith, c.in-Mixed.ensures.0) in
    omega (arith, (half_fits span.height (span.height - 1) span.index above c.requires.low c.requires.fits).1)

pub add_spans-requires : goal.add_spans-requires
add_spans-requires g t c κs within =
    let span = c.args.span in
    let above : span.height ≡ span.height - 1 + 1 = omega (arith, c.in-Mixed.ensures.0) in
    let fits = half_fits span.height (span.height - 1) span.index above c.requires.low c.requires.fits in (
      omega (arith, c.in-Mixed.ensures.0),
      (
        within,
        (
          omega arith,
          (
            omega (arith, fits.0),
            (
              (λ n w. c.requires.part n (lower_part span (span.height - 1) above n w)),
              wider_lower span (span.height - 1) (g.R.Region.has c.args.region.now) above c.in-Mixed.ensures.1,
            ),
          ),
        ),
      ),
    )

pub overflow_add-index : goal.overflow_add-index
overflow_add-index g t c =
    let span = c.args.span in
    let above : span.height ≡ span.height - 1 + 1 = omega (arith, c.in-Mixed.ensures.0) in
    omega (arith, (half_fits span.height (span.height - 1) span.index above c.requires.low c.requires.fits).1)

pub add_spans-requires-in-Mixed : goal.add_spans-requires-in-Mixed
add_spans-requires-in-Mixed g t c κs within =
    let span = c.args.span in
    let above : span.height ≡ span.height - 1 + 1 = omega (arith, c.in-Mixed.ensures.0) in
    let fits = half_fits span.height (span.height - 1) span.index above c.requires.low c.requires.fits in (
      omega (arith, c.in-Mixed.ensures.0),
      (
        within,
        (
          omega arith,
          (
            fits.0,
            (
              (λ n w. c.requires.part n (upper_part span (span.height - 1) above n w)),
              wider_upper span (span.height - 1) (g.R.Region.has c.args.region.now) above c.in-Mixed.ensures.1,
            ),
          ),
        ),
      ),
    )

pub returns-in_ok-add_spans-in-Mixed-2 : goal.returns-in_ok-add_spans-in-Mixed-2
returns-in_ok-add_spans-in-Mixed-2 g t c =
    let span = c.args.span in
    let above : span.height ≡ span.height - 1 + 1 = omega (arith, c.in-Mixed.ensures.0) in
    append_halves (g.R.Region.has c.args.region.now) span (span.height - 1) c.args.spans.now.items c.add_spans.new.spans.items c.add_spans-in-Mixed.new.spans.items above c.in_ok-add_spans-in-Mixed.ensures c.in_ok-add_spans-in-Mixed-2.ensures
