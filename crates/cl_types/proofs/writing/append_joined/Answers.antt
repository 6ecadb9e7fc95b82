use Rattle.std.proofs.Common.{◌∙◌, ◌++◌, false, ap, arith}
use Rattle.std.specs.Fmt.{digits}
use Rattle.cl_types.proofs.Joined.{joined_first, joined_more}
use Rattle.cl_types.proofs.writing.append_joined.Goals as goal
use Rattle.cl_types.proofs.writing.append_joined.Goals.{then-i-gt0+in_ok-write_bytes, else-i-gt0}

-- the first part stands alone, and each other one after a separator
pub loop-i-preserved : goal.loop-i-preserved
loop-i-preserved c =
    elim c.if-i-gt0.branch [
      | then-i-gt0+in_ok-write_bytes w ↦ joined_more c.args.separator (digits c.args.base false) c.args.parts.now c.args.out.now c.loop-i.i c.loop-i.out c.if-i-gt0.out c.append_digits.new.out w.if-i-gt0.true (omega arith) c.loop-i.invariant (w.out-is ∙ w.in_ok-write_bytes.ensures.ok) (c.in_ok-append_digits.ensures.ok ∙ ap (λ x. c.if-i-gt0.out ++ digits c.args.base false x) c.from.ensures)
      | else-i-gt0 w ↦ joined_first c.args.separator (digits c.args.base false) c.args.parts.now c.args.out.now c.loop-i.i c.if-i-gt0.out c.append_digits.new.out w.if-i-gt0.false (omega arith) (w.out-is ∙ c.loop-i.invariant) (c.in_ok-append_digits.ensures.ok ∙ ap (λ x. c.if-i-gt0.out ++ digits c.args.base false x) c.from.ensures)
    ]
