use Rattle.std.proofs.Common.{◌*◌, ap, arith}
use Rattle.cl_types.proofs.Parts.{more_fits}
use Rattle.cl_types.proofs.reading.with_part.Goals as goal

pub overflow_mul-result : goal.overflow_mul-result
overflow_mul-result c =
    let fits = more_fits c.args.family c.args.before.number c.args.before.count c.args.part c.requires.few c.requires.below c.requires.small in
    omega (arith, fits.1, ap (λ b. c.args.before.number * b) c.base.ensures)

pub overflow_add-result : goal.overflow_add-result
overflow_add-result c =
    let fits = more_fits c.args.family c.args.before.number c.args.before.count c.args.part c.requires.few c.requires.below c.requires.small in
    omega (arith, fits.1, c.from.ensures, ap (λ b. c.args.before.number * b) c.base.ensures)
