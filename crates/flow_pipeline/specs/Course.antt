-- What is known of a walk after some of its tables, and how one more table changes it.
use Rattle.std.specs.Prelude.{◌&&◌, ◌||◌, not, List, [], Bool, false, Option, Some, None, fold, if◌then◌else◌}
use Rattle.std.specs.Option.{option_or}
use Rattle.cl_types.specs.declared.keys.Dir.{Dir}
use Rattle.cl_types.specs.declared.keys.Dir.TheVariants.{Ingress, Egress}
use Rattle.cl_types.specs.Judgement.{Judgement}
use Rattle.flow_entries.specs.declared.flow.Flow.{Flow}
use Rattle.flow_entries.specs.declared.table.Table.{Table}
use Rattle.flow_entries.specs.declared.table.Table.TheVariants.{SpoofGuard}
use Rattle.flow_pipeline.specs.Walk.{Visited, visit, next_table, sets_skip, leads_to, answer_of_side, is_rule_table, by_default_if, keeps, end_by}
use Rattle.flow_pipeline.specs.Way.{Ending, no_port, WayData}

-- of a side: its first answer, and whether rules were met
pub record Heard : Type 0 where
  pub answer : Option Judgement
  pub met : Bool

-- where the walk leads, whether it skips policy, how the packet goes, where it ends by its last hit, and the
-- two sides
pub record Course : Type 0 where
  pub next : Option Table
  pub skip : Bool
  pub kept : Option Ending
  pub end : Ending
  pub egress : Heard
  pub ingress : Heard

abbrev pub nothing_heard : Heard
nothing_heard = record { answer = None; met = false }

abbrev pub start : Course
start = record { next = Some SpoofGuard; skip = false; kept = None; end = no_port; egress = nothing_heard; ingress = nothing_heard }

abbrev pub heard : Dir → Bool → Visited → Heard → Heard
heard side skip v h = record {
  answer = option_or h.answer (answer_of_side side v);
  met = h.met || not skip && is_rule_table side v.table;
}

-- after one more hit
abbrev pub passed : Visited → Course → Course
passed v c =
    let kept = option_or (keeps v.flow.does) c.kept in
    record {
      next = next_table v.table v.flow.does;
      skip = c.skip || sets_skip v.flow.does;
      kept = kept;
      end = end_by kept v.table v.flow.does;
      egress = heard Egress c.skip v c.egress;
      ingress = heard Ingress c.skip v c.ingress;
    }

-- after a hit in this table, or where there is none
abbrev pub passed_by : Table → Option Flow → Course → Course
passed_by t None c = record c { next = None }
passed_by t (Some flow) c = passed (record { table = t; flow = flow }) c

-- after this table, which the walk may not lead to
abbrev pub stepped : (Table → Bool → Option Flow) → Course → Table → Course
stepped look c t = if leads_to c.next t then passed_by t (look t c.skip) c else c

-- the visit of this table, where the walk leads to it and hits something there
abbrev pub seen_at : (Table → Bool → Option Flow) → Course → Table → List Visited
seen_at look c t = if leads_to c.next t then visit t (look t c.skip) (λ flow. []) else []

abbrev pub said : Heard → Option Judgement
said h = option_or h.answer (by_default_if h.met)

abbrev pub concluded : Course → WayData
concluded c = record { egress = said c.egress; ingress = said c.ingress; end = c.end }

abbrev pub run : (Table → Bool → Option Flow) → List Table → Course
run look ts = fold (stepped look) start ts
