use Rattle.std.proofs.Common.{◌≡◌, take, map}
use Rattle.flow_pipeline.specs.Course.{run}
use Rattle.flow_pipeline.specs.CourseViews.{course_of}
use Rattle.flow_pipeline.specs.Views.{visited}
use Rattle.flow_pipeline.specs.Walk.{all_tables}
use Rattle.flow_pipeline.proofs.Gone.{look_in, SeenSoFar}
use Rattle.flow_pipeline.proofs.walking.route_seen.Given as goal

-- the tables so far were passed, and the visits so far are all but those that are left
abbrev pub invariant-loop-table : goal.invariant-loop-table
invariant-loop-table l =
    let rest = l.course.1.1 in
    let course = course_of (record { next = l.course.0; skip = l.course.1.0; kept = rest.0; end = rest.1.0; egress = rest.1.1.0; ingress = rest.1.1.1.0 }) in
    (course ≡ run (look_in l.t l.known l.p) (take l.table-index all_tables))
    × SeenSoFar l.t l.known l.p l.table-index course.next course.skip (map visited l.seen.items)
