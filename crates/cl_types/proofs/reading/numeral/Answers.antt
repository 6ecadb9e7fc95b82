use Rattle.std.proofs.Common.{◌+◌, ◌*◌, take, ap, sym, ◌∙◌, arith}
use Rattle.std.specs.Char.{digit_value}
use Rattle.std.specs.Str.Parse.{digits_value}
use Rattle.std.proofs.lemmas.Int.Digits.{digits_more, digits_value_more}
use Rattle.cl_types.proofs.Numerals.{next_fits, digit_in}
use Rattle.cl_types.proofs.reading.numeral.Goals as goal

pub overflow_mul-n : goal.overflow_mul-n
overflow_mul-n c =
    omega (arith, next_fits c.args.base c.loop-b.b-index c.loop-b.n c.args.text.now c.requires.high c.loop-b.invariant.0 c.loop-b.invariant.1 (omega arith))

pub overflow_add-n : goal.overflow_add-n
overflow_add-n c =
    let digit = c.in_ok-n.ensures.value in
    omega (arith, digit.0, next_fits c.args.base c.loop-b.b-index c.loop-b.n c.args.text.now c.requires.high c.loop-b.invariant.0 c.loop-b.invariant.1 (omega arith))

pub returns-in_err-n-clause-none : goal.returns-in_err-n-clause-none
returns-in_err-n-clause-none c =
    rw c.from_residual.ensures (λ all. c.in_err-n.ensures.value (omega (arith, c.from.ensures, ap digit_value c.from.ensures, digit_in c.args.base c.args.text.now c.loop-b.b-index 0 all (omega arith))))

pub loop-b-preserved : goal.loop-b-preserved
loop-b-preserved c =
    let digit = c.in_ok-n.ensures.value in
    let at = ap digit_value c.from.ensures in (
      digits_more c.args.base c.args.text.now c.loop-b.b-index (omega arith) c.loop-b.invariant.0 (omega (arith, digit.0, at)),
      ap (λ m. m * c.args.base + c.in_ok-n.field-0) c.loop-b.invariant.1
          ∙ ap (λ d. digits_value c.args.base (take c.loop-b.b-index c.args.text.now) * c.args.base + d) (digit.1 ∙ at)
          ∙ sym (digits_value_more c.args.base c.args.text.now c.loop-b.b-index (omega arith)),
    )
