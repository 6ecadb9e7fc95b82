use Rattle.std.proofs.Common.{length, ap, arith}
use Rattle.cl_types.specs.declared.reading.Family.TheVariants.{Colons}
use Rattle.cl_types.proofs.Parts.{parts_unique}
use Rattle.cl_types.proofs.reading.read_full.Goals as goal

pub returns-else-groups-eq8-clause-none : goal.returns-else-groups-eq8-clause-none
returns-else-groups-eq8-clause-none c = λ n o.
    let found = c.in_ok-groups.ensures.found in
    c.if-groups-eq8.false (omega (arith, ap length (parts_unique Colons c.args.text.now found.0 o.groups found.1 o.parts), o.eight, found.2.count))
