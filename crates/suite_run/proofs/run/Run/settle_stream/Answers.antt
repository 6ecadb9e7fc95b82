use Rattle.suite_run.specs.Doing.{stream_at}
use Rattle.suite_run.proofs.Leaving.{listed_after}
use Rattle.suite_run.proofs.Matched.{on_ok}
use Rattle.suite_run.proofs.Parts.{cut_settled}
use Rattle.suite_run.proofs.Rounds.{done_names}
use Rattle.suite_run.proofs.run.Run.settle_stream.Goals as goal

pub begin_again-requires : goal.begin_again-requires
begin_again-requires c =
    listed_after c.args.node.now c.args.self.now.sites c.deliver_stream.new.self.sites
    (done_names _ c.args.self.now c.deliver_stream.new.self _ c.in_ok-deliver_stream.ensures) c.requires

pub returns : goal.returns
returns c =
    on_ok c.begin_again.result _ _
    (cut_settled (stream_at c.args.node.now c.args.stream) c.args.self.now c.deliver_stream.new.self c.in_ok-deliver_stream.field-0 c.in_ok-deliver_stream.ensures
    c.is_live-live.result c.is_live-live.ensures c.if-live.false c.begin_again.new.self)
    c.begin_again.ensures
