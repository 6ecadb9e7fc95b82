use Rattle.std.proofs.Common.{◌+◌, take, sym, subst, arith}
use Rattle.std.specs.List.{All}
use Rattle.cl_types.specs.declared.blocks.Standing.{Standing}
use Rattle.cl_types.specs.Addr.{with_number}
use Rattle.cl_types.specs.Prefix.{Holds}
use Rattle.cl_types.specs.Blocks.{StandsAs}
use Rattle.cl_types.proofs.Remaining.{stands_more, stands_mixed, stands_all}
use Rattle.cl_types.proofs.blocks.left_of.Goals as goal
use Rattle.cl_types.proofs.blocks.left_of.Goals.{in-Mixed, in-Inside}

pub loop-except-preserved : goal.loop-except-preserved
loop-except-preserved c =
    let i = c.loop-except.except-index in
    let es = c.args.excepts.now in
    elim c.match-beside.branch [
      | in-Mixed w ↦ subst (λ (st : Standing). StandsAs (λ n. All (λ e. ¬ Holds e (with_number c.args.base n)) (take (i + 1) es)) c.args.span st) (sym w.standing-is)
          (stands_mixed c.args.span c.args.base es i c.except-item.result (omega arith) c.except-item.is w.in-Mixed.ensures)
      | in-Inside w ↦ subst (λ (st : Standing). StandsAs (λ n. All (λ e. ¬ Holds e (with_number c.args.base n)) (take (i + 1) es)) c.args.span st) (sym w.standing-is)
          (stands_more c.args.span c.args.base es i c.except-item.result (omega arith) c.except-item.is c.loop-except.standing c.loop-except.invariant w.in-Inside.ensures)
    ]

pub returns : goal.returns
returns c = stands_all c.args.span c.args.base c.args.excepts.now c.loop-except.except-index c.loop-except.standing (omega arith) c.loop-except.invariant
