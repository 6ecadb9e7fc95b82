use Rattle.std.proofs.Common.{arith}
use Rattle.held_maps.proofs.finish.finish_groups.Goals as goal

pub filled-rows-requires : goal.filled-rows-requires
filled-rows-requires c = omega (arith, c.requires, c.len.ensures, c.args.steps.ok.0)
