use Rattle.std.proofs.Common.{subst}
use Rattle.std.specs.List.{All}
use Rattle.cl_types.specs.declared.blocks.Remaining.{Remaining}
use Rattle.cl_types.specs.Addr.{with_number}
use Rattle.cl_types.specs.Prefix.{Holds}
use Rattle.cl_types.specs.Blocks.{StandsAs}
use Rattle.cl_types.proofs.Remaining.{stands_remaining}
use Rattle.cl_types.proofs.blocks.RemainingRegion.standing.Goals as goal

pub returns : goal.returns
returns c =
    let region = c.args.self.now in
    stands_remaining region.block region.excepts.now c.args.span c.left_of.result c.requires.part
    (subst (λ (r : Remaining). StandsAs (λ n. All (λ e. ¬ Holds e (with_number r.block.base n)) r.excepts.now) c.args.span c.left_of.result) c.self.view_is c.left_of.ensures)
