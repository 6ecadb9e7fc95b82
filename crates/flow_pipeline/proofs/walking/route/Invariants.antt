use Rattle.std.proofs.Common.{◌≡◌, take}
use Rattle.flow_pipeline.specs.Course.{run}
use Rattle.flow_pipeline.specs.CourseViews.{course_of}
use Rattle.flow_pipeline.specs.Walk.{all_tables}
use Rattle.flow_pipeline.proofs.Gone.{look_in}
use Rattle.flow_pipeline.proofs.walking.route.Given as goal

-- the tables so far were passed
abbrev pub invariant-loop-table : goal.invariant-loop-table
invariant-loop-table l =
    let rest = l.course.1.1 in
    course_of (record { next = l.course.0; skip = l.course.1.0; kept = rest.0; end = rest.1.0; egress = rest.1.1.0; ingress = rest.1.1.1.0 })
    ≡ run (look_in l.t l.known l.p) (take l.table-index all_tables)
