-- A course without where its parts lie in memory.
use Rattle.std.specs.Option.{option_map}
use Rattle.cl_types.specs.Judgement.{judgement_of}
use Rattle.flow_pipeline.specs.declared.course.Heard.{Heard}
use Rattle.flow_pipeline.specs.declared.course.Course.{Course}
use Rattle.flow_pipeline.specs.Course as spec
use Rattle.flow_pipeline.specs.Views.{ending_of}

abbrev pub heard_of : Heard → spec.Heard
heard_of h = record { answer = option_map judgement_of h.answer; met = h.met }

abbrev pub course_of : Course → spec.Course
course_of c = record {
  next = c.next;
  skip = c.skip;
  kept = option_map ending_of c.kept;
  end = ending_of c.end;
  egress = heard_of c.egress;
  ingress = heard_of c.ingress;
}
