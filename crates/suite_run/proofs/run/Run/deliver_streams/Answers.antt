use Rattle.std.proofs.Common.{◌+◌, ◌∙◌}
use Rattle.run_machine.specs.Lines.{every_stream}
use Rattle.suite_run.specs.Delivering.{delivering_on, on_streams}
use Rattle.suite_run.proofs.Leaving.{listed_after}
use Rattle.suite_run.proofs.Parts.{delivering_of}
use Rattle.suite_run.proofs.Rounds.{done_names, sum_done, three_done}
use Rattle.suite_run.proofs.run.Run.deliver_streams.Goals as goal

pub deliver_stream-requires-2 : goal.deliver_stream-requires-2
deliver_stream-requires-2 c =
    listed_after c.args.node.now c.args.self.now.sites c.deliver_stream.new.self.sites
    (done_names _ c.args.self.now c.deliver_stream.new.self _ c.in_ok-policies.ensures) c.requires

pub deliver_stream-requires-3 : goal.deliver_stream-requires-3
deliver_stream-requires-3 c =
    listed_after c.args.node.now c.args.self.now.sites c.deliver_stream-2.new.self.sites
    (done_names _ c.deliver_stream.new.self c.deliver_stream-2.new.self _ c.in_ok-addresses.ensures ∙ done_names _ c.args.self.now c.deliver_stream.new.self _ c.in_ok-policies.ensures) c.requires

pub returns : goal.returns
returns c =
    sum_done (on_streams (delivering_on c.args.count) every_stream c.args.node.now c.args.self.now.sites) c.args.self.now c.deliver_stream-3.new.self
    (c.in_ok-policies.policies + (c.in_ok-addresses.addresses + c.in_ok-applied.applied)) c.sum_of_three.result c.sum_of_three.ensures
    (three_done (delivering_on c.args.count) (delivering_of c.args.count) c.args.node.now c.args.self.now c.deliver_stream.new.self c.deliver_stream-2.new.self c.deliver_stream-3.new.self
    c.in_ok-policies.policies c.in_ok-addresses.addresses c.in_ok-applied.applied c.in_ok-policies.ensures c.in_ok-addresses.ensures c.in_ok-applied.ensures)
