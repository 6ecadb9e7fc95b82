use Rattle.std.proofs.Common.{arith}
use Rattle.cl_types.proofs.Gap.{gap_more}
use Rattle.cl_types.proofs.reading.cut_gap.Goals as goal
use Rattle.cl_types.proofs.reading.cut_gap.Goals.{else-text-i-eq58-via-then-text-i-eq58+else-text-i-eq58-2, else-text-i-eq58-via-else-text-i-eq58}

pub loop-i-preserved : goal.loop-i-preserved
loop-i-preserved c =
    gap_more c.args.text.now c.loop-i.i (omega arith) (omega arith) c.loop-i.invariant
    (elim c.else-text-i-eq58.branch [
      | else-text-i-eq58-via-then-text-i-eq58+else-text-i-eq58-2 w ↦ λ _ e. w.if-text-i-eq58-2.false e
      | else-text-i-eq58-via-else-text-i-eq58 w ↦ λ e _. w.if-text-i-eq58.false e
    ])
