use Rattle.std.proofs.Common.{arith}
use Rattle.cl_types.proofs.Numerals.{octet_form, octet_from_form}
use Rattle.std.proofs.lemmas.Bool.Decides.{nat_tests}
use Rattle.cl_types.proofs.reading.octet.Goals as goal
use Rattle.cl_types.proofs.reading.octet.Goals.{then-is_empty-via-then-is_empty, then-is_empty-via-else-is_empty+then-text-gt3, then-is_empty-via-else-is_empty+else-text-gt3+then-text-eq48, then-text-gt1, else-text-gt1}

pub returns-then-is_empty-clause-none : goal.returns-then-is_empty-clause-none
returns-then-is_empty-clause-none c = λ n o.
    let form = octet_form c.args.text.now n o in
    elim c.then-is_empty.branch [
      | then-is_empty-via-then-is_empty w ↦ grind (arith, nat_tests, form.some)
      | then-is_empty-via-else-is_empty+then-text-gt3 w ↦ omega (arith, form.short)
      | then-is_empty-via-else-is_empty+else-text-gt3+then-text-eq48 w ↦ elim w.if-text-gt1.branch [ then-text-gt1 w' ↦ grind (arith, nat_tests, form.plain) | else-text-gt1 w' ↦ grind (arith, nat_tests) ]
    ]

pub returns-in_err-n-clause-none : goal.returns-in_err-n-clause-none
returns-in_err-n-clause-none c =
    rw c.from_residual.ensures (λ n o. c.in_err-n.ensures.none ((octet_form c.args.text.now n o).digits))

pub returns-then-n-lt256-clause-found : goal.returns-then-n-lt256-clause-found
returns-then-n-lt256-clause-found c =
    let found = c.in_ok-n.ensures.found in
    octet_from_form c.args.text.now c.in_ok-n.n (grind (arith, nat_tests)) found.0 found.1
    (elim c.if-text-gt1.branch [ then-text-gt1 w ↦ λ z. grind (arith, nat_tests) | else-text-gt1 w ↦ λ z. omega arith ])
    (omega arith)

pub returns-else-n-lt256-clause-none : goal.returns-else-n-lt256-clause-none
returns-else-n-lt256-clause-none c = λ n o.
    let form = octet_form c.args.text.now n o in
    omega (arith, form.value, c.in_ok-n.ensures.found.1, o.below)
