use Rattle.std.proofs.Common.{ap, ◌∙◌, arith}
use Rattle.flow_pipeline.specs.Walk.{walk}
use Rattle.flow_pipeline.proofs.Gone.{run-more, run-all}
use Rattle.flow_pipeline.proofs.walking.route.Goals as goal

pub loop-table-preserved : goal.loop-table-preserved
loop-table-preserved c =
    run-more c.args.t.now c.known-known.result c.args.p.now c.loop-table.table-index _ _ (omega arith) c.stepped-course.ensures c.loop-table.invariant

pub returns : goal.returns
returns c =
    c.concluded.ensures
    ∙ run-all c.args.t.now c.known-known.result c.args.p.now c.loop-table.table-index _ (omega arith) c.loop-table.invariant
    ∙ ap (λ known. walk c.args.t.now known c.args.p.now) c.known-known.ensures
