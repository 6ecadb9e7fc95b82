use Rattle.std.proofs.Common.{length, ap, arith}
use Rattle.cl_types.specs.declared.reading.Family.TheVariants.{Dotted}
use Rattle.cl_types.proofs.Parts.{parts_unique}
use Rattle.cl_types.proofs.reading.read_dotted.Goals as goal

pub returns-else-octets-eq4-clause-none : goal.returns-else-octets-eq4-clause-none
returns-else-octets-eq4-clause-none c = λ n o.
    let found = c.in_ok-octets.ensures.found in
    c.if-octets-eq4.false (omega (arith, ap length (parts_unique Dotted c.args.text.now found.0 o.octets found.1 o.parts), o.four, found.2.count))
