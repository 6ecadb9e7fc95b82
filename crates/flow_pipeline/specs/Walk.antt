-- The walk of a packet through the tables (Antrea's documentation of its OVS pipeline): which flows it hits, what
-- each side says of it, and where it ends.
use Rattle.std.specs.Prelude.{◌==◌, ◌&&◌, ◌||◌, not, nat_le, List, [], ◌∷◌, Bool, true, false, Option, Some, None, if◌then◌else◌}
use Rattle.std.specs.List.{last_or}
use Rattle.std.specs.Option.{option_or, option_map_or, unwrap_or}
use Rattle.cl_types.specs.declared.keys.Dir.{Dir}
use Rattle.cl_types.specs.declared.keys.Dir.TheVariants.{Ingress, Egress}
use Rattle.cl_types.specs.declared.keys.RuleKey.{RuleKey}
use Rattle.cl_types.specs.declared.question.Packet.{Packet}
use Rattle.cl_types.specs.declared.verdict.Action.{Action}
use Rattle.cl_types.specs.declared.verdict.Action.TheVariants as action
use Rattle.cl_types.specs.declared.verdict.Verdict.{Verdict}
use Rattle.cl_types.specs.declared.verdict.Verdict.TheVariants as verdict
use Rattle.cl_types.specs.Dir.{dir_eq}
use Rattle.cl_types.specs.Judgement.{Judgement, by_rule, by_isolation, by_default}
use Rattle.flow_entries.specs.declared.flow.Does.{Does}
use Rattle.flow_entries.specs.declared.flow.Does.TheVariants as does
use Rattle.flow_entries.specs.declared.flow.Flow.{Flow}
use Rattle.flow_entries.specs.declared.table.Table.{Table}
use Rattle.flow_entries.specs.declared.table.Table.TheVariants as table
use Rattle.flow_tables.specs.Lookup.{lookup}
use Rattle.flow_entries.specs.Table.{table_place, table_eq}
use Rattle.flow_pipeline.specs.Way.{Ending, spoofed, no_port, stopped, delivered, tunnelled, leaves, plain, here, there, WayData, gateway_port}

-- a table that a packet passed, and the flow that it hit there
pub record Visited : Type 0 where
  pub table : Table
  pub flow : Flow

-- all tables, in the order in which packets pass them
abbrev pub all_tables : List Table
all_tables =
    table.SpoofGuard ∷ table.ConntrackState ∷ table.AntreaPolicyEgressRule ∷ table.EgressRule ∷ table.EgressDefaultRule
    ∷ table.EgressMetric ∷ table.L3Forwarding ∷ table.Snat ∷ table.AntreaPolicyIngressRule ∷ table.IngressRule
    ∷ table.IngressDefaultRule ∷ table.IngressMetric ∷ table.ConntrackCommit ∷ table.Output ∷ []

-- ---- where a hit leads

abbrev pub table_after : Table → Option Table
table_after table.SpoofGuard = Some table.ConntrackState
table_after table.ConntrackState = Some table.AntreaPolicyEgressRule
table_after table.AntreaPolicyEgressRule = Some table.EgressRule
table_after table.EgressRule = Some table.EgressDefaultRule
table_after table.EgressDefaultRule = Some table.EgressMetric
table_after table.EgressMetric = Some table.L3Forwarding
table_after table.L3Forwarding = Some table.Snat
table_after table.Snat = Some table.AntreaPolicyIngressRule
table_after table.AntreaPolicyIngressRule = Some table.IngressRule
table_after table.IngressRule = Some table.IngressDefaultRule
table_after table.IngressDefaultRule = Some table.IngressMetric
table_after table.IngressMetric = Some table.ConntrackCommit
table_after table.ConntrackCommit = Some table.Output
table_after table.Output = None

-- tables up to EgressMetric look at what leaves a pod, and the later ones at what comes to it
abbrev pub side_of : Table → Dir
side_of t = if nat_le (table_place t) (table_place table.EgressMetric) then Egress else Ingress

abbrev pub metric_table : Dir → Table
metric_table Egress = table.EgressMetric
metric_table Ingress = table.IngressMetric

-- where a rule leads that a packet hit in this table
abbrev pub after_action : Table → Action → Option Table
after_action t action.Allow = Some (metric_table (side_of t))
after_action t action.Drop = None
after_action t action.Reject = None
after_action t action.Pass = table_after t

-- the table to which a hit in this table leads
abbrev pub next_table : Table → Does → Option Table
next_table t does.Next = table_after t
next_table t (does.Goto u) = Some u
next_table t does.Skip = Some table.L3Forwarding
next_table t (does.Port q) = Some (if q == gateway_port then table.ConntrackCommit else table.AntreaPolicyIngressRule)
next_table t (does.Tunnel node) = Some table.ConntrackCommit
next_table t does.Leave = Some table.ConntrackCommit
next_table t (does.Mark mark a) = Some table.ConntrackCommit
next_table t (does.Remote node a) = Some table.ConntrackCommit
next_table t does.Spoof = None
next_table t does.NoPort = None
next_table t does.Isolate = None
next_table t (does.Clauses clauses) = None
next_table t (does.Verdict act rule) = after_action t act
next_table t does.Output = None

abbrev pub sets_skip : Does → Bool
sets_skip does.Skip = true
sets_skip _ = false

-- ---- the walk

abbrev pub leads_to : Option Table → Table → Bool
leads_to None t = false
leads_to (Some u) t = table_eq u t

-- where nothing is hit in a table, the walk ends
abbrev pub visit : Table → Option Flow → (Flow → List Visited) → List Visited
visit t None later = []
visit t (Some flow) later = record { table = t; flow = flow } ∷ later flow

-- The tables that the packet passes of those that are left, and its hits in them. `next` is the table to
-- which it was led, and `skip` says whether it skips policy; `look` is the lookup. The tables go by in their
-- order, so the walk leads from each table to a later one, and ends where a hit leads to none.
abbrev pub visits : (Table → Bool → Option Flow) → List Table → Option Table → Bool → List Visited
visits look [] next skip = []
visits look (t ∷ ts) next skip =
    if leads_to next t
    then visit t (look t skip) (λ flow. visits look ts (next_table t flow.does) (skip || sets_skip flow.does))
    else visits look ts next skip

-- ---- the sides

abbrev pub ruled : Verdict → RuleKey → Judgement
ruled v rule = record { verdict = v; by = by_rule rule }

-- what a rule says; Pass says nothing
abbrev pub by_action : Action → RuleKey → Option Judgement
by_action action.Allow rule = Some (ruled verdict.Allow rule)
by_action action.Drop rule = Some (ruled verdict.Drop rule)
by_action action.Reject rule = Some (ruled verdict.Reject rule)
by_action action.Pass rule = None

-- what a hit says of its side
abbrev pub answer : Does → Option Judgement
answer does.Isolate = Some (record { verdict = verdict.Drop; by = by_isolation })
answer (does.Verdict act rule) = by_action act rule
answer _ = None

abbrev pub answer_of_side : Dir → Visited → Option Judgement
answer_of_side side v = if dir_eq (side_of v.table) side then answer v.flow.does else None

-- the first hit of the side that says something
abbrev pub first_answer : Dir → List Visited → Option Judgement
first_answer side [] = None
first_answer side (v ∷ vs) = option_or (answer_of_side side v) (first_answer side vs)

-- the tables of native, Kubernetes and Baseline rules
abbrev pub has_rules : Table → Bool
has_rules table.AntreaPolicyEgressRule = true
has_rules table.EgressRule = true
has_rules table.EgressDefaultRule = true
has_rules table.AntreaPolicyIngressRule = true
has_rules table.IngressRule = true
has_rules table.IngressDefaultRule = true
has_rules _ = false

abbrev pub is_rule_table : Dir → Table → Bool
is_rule_table side t = has_rules t && dir_eq (side_of t) side

-- one of the side's rule tables was passed while the packet didn't skip policy
abbrev pub met_rules : Dir → Bool → List Visited → Bool
met_rules side skip [] = false
met_rules side skip (v ∷ vs) =
    not skip && is_rule_table side v.table || met_rules side (skip || sets_skip v.flow.does) vs

-- where rules were met and none spoke, the packet is allowed by default
abbrev pub by_default_if : Bool → Option Judgement
by_default_if met = if met then Some (record { verdict = verdict.Allow; by = by_default }) else None

abbrev pub side_said : Dir → List Visited → Option Judgement
side_said side vs = option_or (first_answer side vs) (by_default_if (met_rules side false vs))

-- ---- the end

-- how the packet goes by what it hit, should it get to the end of the tables
abbrev pub keeps : Does → Option Ending
keeps (does.Port q) = Some (delivered q)
keeps (does.Tunnel node) = Some (tunnelled node)
keeps does.Leave = Some (leaves plain)
keeps (does.Mark mark a) = Some (leaves (here a))
keeps (does.Remote node a) = Some (leaves (there node a))
keeps _ = None

abbrev pub end_by_action : Table → Action → Ending
end_by_action t action.Allow = no_port
end_by_action t action.Drop = stopped (side_of t)
end_by_action t action.Reject = stopped (side_of t)
end_by_action t action.Pass = no_port

-- how the packet ends where this is its last hit. A hit that leads on leaves it without a port.
abbrev pub end_by : Option Ending → Table → Does → Ending
end_by kept t does.Spoof = spoofed
end_by kept t does.Isolate = stopped (side_of t)
end_by kept t (does.Verdict act rule) = end_by_action t act
end_by kept t does.Output = unwrap_or kept no_port
end_by kept t _ = no_port

-- how the packet goes by the last hit that says so
abbrev pub kept_by : List Visited → Option Ending
kept_by [] = None
kept_by (v ∷ vs) = option_or (kept_by vs) (keeps v.flow.does)

-- the last hit decides
abbrev pub end_of : List Visited → Ending
end_of vs = option_map_or (λ v. end_by (kept_by vs) v.table v.flow.does) (last_or None vs) no_port

-- ---- the way

abbrev pub way_by : List Visited → WayData
way_by vs = record {
  egress = side_said Egress vs;
  ingress = side_said Ingress vs;
  end = end_of vs;
}

-- the tables that the packet passes, with its hits, from SpoofGuard on
unfoldable pub all_visits : List Flow → Bool → Packet → List Visited
all_visits flows known p = visits (λ t skip. lookup flows t p known skip) all_tables (Some table.SpoofGuard) false

abbrev pub walk : List Flow → Bool → Packet → WayData
walk flows known p = way_by (all_visits flows known p)
