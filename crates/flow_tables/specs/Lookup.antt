-- Which flow of a table a packet hits (Open vSwitch: the flow of the greatest priority that matches;
-- conjunctive matches as in ovs-fields(7), with three dimensions each).
use Rattle.std.specs.Prelude.{ℕ, Bool, true, false, ◌&&◌, ◌==◌, not, List, [], Option, Some, None, filter, is_none, if◌then◌else◌}
use Rattle.std.specs.List.{list_any}
use Rattle.std.specs.declared.cmp.Ordering.{Ordering}
use Rattle.std.specs.declared.cmp.Ordering.TheVariants.{Less, Equal, Greater}
use Rattle.std.specs.Ordering.{ordering_then, nat_cmp}
use Rattle.cl_types.specs.declared.keys.RuleKey.{RuleKey}
use Rattle.cl_types.specs.declared.question.Packet.{Packet}
use Rattle.cl_types.specs.First.{first}
use Rattle.cl_types.specs.RuleOrder.{rule_order}
use Rattle.flow_entries.specs.declared.flow.Clause.{Clause}
use Rattle.flow_entries.specs.declared.flow.Does.{Does}
use Rattle.flow_entries.specs.declared.flow.Does.TheVariants as does
use Rattle.flow_entries.specs.declared.flow.Flow.{Flow}
use Rattle.flow_tables.specs.declared.lookup.Arrival.{Arrival}
use Rattle.flow_entries.specs.declared.table.Table.{Table}
use Rattle.flow_entries.specs.Matching.{matches}
use Rattle.flow_entries.specs.Table.{table_eq}

-- ---- flows that match

-- the flow is of the table to which the packet comes, and matches it in every field but `conj`
abbrev pub meets : Arrival → Flow → Bool
meets a f = table_eq f.table a.table && matches f.fields a.packet a.known a.skip

-- ---- conjunctions

abbrev pub is_clauses : Does → Bool
is_clauses (does.Clauses clauses) = true
is_clauses _ = false

abbrev pub clauses_of : Does → List Clause
clauses_of (does.Clauses clauses) = clauses
clauses_of _ = []

-- dimension k of this id
abbrev pub is_clause : ℕ → ℕ → Clause → Bool
is_clause id k c = (c.id == id) && (c.k == k)

-- The flow of this priority matches, and has dimension k of the id. One with the field `conj` gives no id.
abbrev pub gives : Arrival → ℕ → ℕ → ℕ → Flow → Bool
gives a priority id k f =
    meets a f && (f.priority == priority) && is_none f.fields.conj && list_any (is_clause id k) (clauses_of f.does)

-- each of the three dimensions of the id is given at this priority
abbrev pub is_complete : List Flow → Arrival → ℕ → ℕ → Bool
is_complete flows a priority id =
    list_any (gives a priority id 1) flows
    && list_any (gives a priority id 2) flows
    && list_any (gives a priority id 3) flows

-- ---- hits

-- no conjunction has a part in the flow
abbrev pub is_plain : Flow → Bool
is_plain f = is_none f.fields.conj && not (is_clauses f.does)

-- the field `conj` is not given, or its id is complete at the flow's priority
abbrev pub conj_holds : List Flow → Arrival → ℕ → Option ℕ → Bool
conj_holds flows a priority None = true
conj_holds flows a priority (Some id) = is_complete flows a priority id

-- The flow matches in all its fields. A flow of clauses is never hit.
abbrev pub can_be_hit : List Flow → Arrival → Flow → Bool
can_be_hit flows a f = not (is_clauses f.does) && meets a f && conj_holds flows a f.priority f.fields.conj

abbrev pub rule_of : Does → Option RuleKey
rule_of (does.Verdict action rule) = Some rule
rule_of _ = None

-- the rule by which a conj flow is hit before others
abbrev pub hit_rule : Flow → Option RuleKey
hit_rule f = if is_none f.fields.conj then None else rule_of f.does

-- the rule order; what has no rule comes last
abbrev pub rules_order : Option RuleKey → Option RuleKey → Ordering
rules_order (Some a) (Some b) = rule_order a b
rules_order (Some a) None = Less
rules_order None (Some b) = Greater
rules_order None None = Equal

-- plain flows before conj flows
abbrev pub hit_rank : Flow → ℕ
hit_rank f = if is_none f.fields.conj then 0 else 1

-- Which of two flows is hit before the other: the one of greater priority; at one priority a plain flow
-- before conj flows, and of conj flows the one whose rule is first in the rule order.
abbrev pub hit_order : Flow → Flow → Ordering
hit_order f g =
    ordering_then (nat_cmp g.priority f.priority)
    (ordering_then (nat_cmp (hit_rank f) (hit_rank g)) (rules_order (hit_rule f) (hit_rule g)))

-- of the flows that can be hit the one that is hit first
abbrev pub hit_of : List Flow → Arrival → Option Flow
hit_of flows a = first hit_order (filter (can_be_hit flows a) flows)

-- The flow of the table that the packet hits. `known` says that the packet's connection is known, and
-- `skip` that the walk skips policy.
unfoldable pub lookup : List Flow → Table → Packet → Bool → Bool → Option Flow
lookup flows table p known skip = hit_of flows (record { table = table; packet = p; known = known; skip = skip })
