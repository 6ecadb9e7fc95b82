use Rattle.std.proofs.Common.{◌∙◌}
use Rattle.cl_types.specs.declared.stream.Stream.TheVariants.{Policies, Addresses}
use Rattle.suite_run.proofs.Leaving.{listed_after}
use Rattle.suite_run.proofs.Matched.{on_ok}
use Rattle.suite_run.proofs.Parts.{settling_of}
use Rattle.suite_run.proofs.Rounds.{done_of, own, run_names, three_done}
use Rattle.suite_run.specs.Resting.{settling_on}
use Rattle.suite_run.proofs.run.Run.settle_node.Goals as goal

pub settle_stream-requires-2 : goal.settle_stream-requires-2
settle_stream-requires-2 c =
    listed_after c.args.node.now c.args.self.now.sites c.settle_stream.new.self.sites
    (run_names (own settling_on settling_of c.args.node.now Policies c.args.self.now.sites) c.args.self.now c.settle_stream.new.self c.in_ok-settle_stream.ensures) c.requires

pub settle_stream-requires-3 : goal.settle_stream-requires-3
settle_stream-requires-3 c =
    listed_after c.args.node.now c.args.self.now.sites c.settle_stream-2.new.self.sites
    (run_names (own settling_on settling_of c.args.node.now Addresses c.settle_stream.new.self.sites) c.settle_stream.new.self c.settle_stream-2.new.self c.in_ok-settle_stream-2.ensures ∙ run_names (own settling_on settling_of c.args.node.now Policies c.args.self.now.sites) c.args.self.now c.settle_stream.new.self c.in_ok-settle_stream.ensures) c.requires

pub returns : goal.returns
returns c =
    on_ok c.settle_stream-3.result _ _
    (λ last.
    (three_done settling_on settling_of c.args.node.now c.args.self.now c.settle_stream.new.self c.settle_stream-2.new.self c.settle_stream-3.new.self _ _ _
    (done_of _ c.args.self.now c.settle_stream.new.self c.in_ok-settle_stream.ensures)
    (done_of _ c.settle_stream.new.self c.settle_stream-2.new.self c.in_ok-settle_stream-2.ensures)
    (done_of _ c.settle_stream-2.new.self c.settle_stream-3.new.self last)).run)
    c.settle_stream-3.ensures
