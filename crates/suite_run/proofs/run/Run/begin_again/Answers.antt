use Rattle.std.proofs.Common.{[], ◌∷◌}
use Rattle.run_machine.specs.Machine.{rejoin}
use Rattle.suite_run.specs.Cutting.{RejoinsAt}
use Rattle.suite_run.specs.Doing.{stream_at}
use Rattle.suite_run.proofs.Leaving.{listed_after}
use Rattle.suite_run.proofs.Rounds.{run_names}
use Rattle.suite_run.proofs.run.Run.begin_again.Goals as goal

pub take-requires : goal.take-requires
take-requires c =
    let began : RejoinsAt (stream_at c.args.node.now c.args.stream) c.in-Ok.field-0 c.args.self.now c.rejoin.new.self = c.in-Ok.ensures.rejoins in
    listed_after c.args.node.now c.args.self.now.sites c.rejoin.new.self.sites
    (run_names (rejoin (stream_at c.args.node.now c.args.stream) ∷ []) c.args.self.now c.rejoin.new.self began.run) c.requires
