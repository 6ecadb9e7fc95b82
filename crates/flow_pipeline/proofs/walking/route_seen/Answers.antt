use Rattle.std.proofs.Common.{ap, ◌∙◌, arith, map}
use Rattle.flow_pipeline.specs.Views.{visited}
use Rattle.flow_pipeline.specs.Walk.{walk, all_visits}
use Rattle.flow_pipeline.proofs.Gone.{run-more, run-all, seen-none, seen-more, seen-all}
use Rattle.flow_pipeline.proofs.walking.route_seen.Goals as goal

pub loop-table-init : goal.loop-table-init
loop-table-init c = (
  c.start-course.ensures,
  seen-none c.args.t.now c.known-known.result c.args.p.now _ _ c.start-course.ensures (ap (map visited) c.new-seen.ensures.items),
)

pub loop-table-preserved : goal.loop-table-preserved
loop-table-preserved c = (
  run-more c.args.t.now c.known-known.result c.args.p.now c.loop-table.table-index _ _ (omega arith) c.in_ok-course.ensures.course c.loop-table.invariant.0,
  seen-more c.args.t.now c.known-known.result c.args.p.now c.loop-table.table-index _ _ _ _ (omega arith) c.in_ok-course.ensures.course c.in_ok-course.ensures.seen c.loop-table.invariant.1,
)

pub returns-clause-way : goal.returns-clause-way
returns-clause-way c =
    c.concluded.ensures
    ∙ run-all c.args.t.now c.known-known.result c.args.p.now c.loop-table.table-index _ (omega arith) c.loop-table.invariant.0
    ∙ ap (λ known. walk c.args.t.now known c.args.p.now) c.known-known.ensures

pub returns-clause-visits : goal.returns-clause-visits
returns-clause-visits c =
    ap (map visited) c.of.ensures
    ∙ seen-all c.args.t.now c.known-known.result c.args.p.now c.loop-table.table-index _ _ _ (omega arith) c.loop-table.invariant.1
    ∙ ap (λ known. all_visits c.args.t.now known c.args.p.now) c.known-known.ensures
