use Rattle.std.proofs.Common.{take}
use Rattle.std.specs.List.{All}
use Rattle.cl_types.specs.Addr.{with_number}
use Rattle.cl_types.specs.Prefix.{Holds}
use Rattle.cl_types.specs.Blocks.{StandsAs}
use Rattle.cl_types.proofs.blocks.left_of.Given as goal

-- how the span lies to what the excepts so far leave
abbrev pub invariant-loop-except : goal.invariant-loop-except
invariant-loop-except l = StandsAs (λ n. All (λ e. ¬ Holds e (with_number l.base n)) (take l.except-index l.excepts)) l.span l.standing
