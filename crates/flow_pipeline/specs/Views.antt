-- Ways and visits without where their parts lie in memory.
use Rattle.std.specs.Option.{option_map}
use Rattle.cl_types.specs.Judgement.{judgement_of}
use Rattle.flow_pipeline.specs.declared.way.Choice3.{Choice3}
use Rattle.flow_pipeline.specs.declared.way.Choice3.TheVariants as choice
use Rattle.flow_pipeline.specs.declared.way.End.{End}
use Rattle.flow_pipeline.specs.declared.way.End.TheVariants as end
use Rattle.flow_pipeline.specs.declared.way.Way.{Way}
use Rattle.flow_pipeline.specs.declared.way.Visit.{Visit}
use Rattle.flow_pipeline.specs.Way.{Choice, plain, here, there, Ending, spoofed, no_port, stopped, delivered, tunnelled, leaves, WayData}
use Rattle.flow_pipeline.specs.Walk.{Visited}

abbrev pub choice_of : Choice3 → Choice
choice_of choice.Plain = plain
choice_of (choice.Here a) = here a
choice_of (choice.There node a) = there node.now a

abbrev pub ending_of : End → Ending
ending_of end.Spoof = spoofed
ending_of end.NoPort = no_port
ending_of (end.Stopped side) = stopped side
ending_of (end.Delivered q) = delivered q
ending_of (end.Tunnelled node) = tunnelled node.now
ending_of (end.Leaves choice) = leaves (choice_of choice)

abbrev pub way_of : Way → WayData
way_of w = record {
  egress = option_map judgement_of w.egress;
  ingress = option_map judgement_of w.ingress;
  end = ending_of w.end;
}

abbrev pub visited : Visit → Visited
visited v = record { table = v.table; flow = v.flow.now }
