-- The tables of the pipeline (Antrea's OVS pipeline; what a packet passes here is this project's own choice
-- of its tables).
use Rattle.std.specs.Prelude.{ℕ, Bool, List, ◌==◌, codes}
use Rattle.flow_entries.specs.declared.table.Table.{Table}
use Rattle.flow_entries.specs.declared.table.Table.TheVariants as table

-- how many tables a packet passes before this one
abbrev pub table_place : Table → ℕ
table_place table.SpoofGuard = 0
table_place table.ConntrackState = 1
table_place table.AntreaPolicyEgressRule = 2
table_place table.EgressRule = 3
table_place table.EgressDefaultRule = 4
table_place table.EgressMetric = 5
table_place table.L3Forwarding = 6
table_place table.Snat = 7
table_place table.AntreaPolicyIngressRule = 8
table_place table.IngressRule = 9
table_place table.IngressDefaultRule = 10
table_place table.IngressMetric = 11
table_place table.ConntrackCommit = 12
table_place table.Output = 13

abbrev pub table_eq : Table → Table → Bool
table_eq a b = table_place a == table_place b

abbrev pub table_text : Table → List ℕ
table_text table.SpoofGuard = codes "SpoofGuard"
table_text table.ConntrackState = codes "ConntrackState"
table_text table.AntreaPolicyEgressRule = codes "AntreaPolicyEgressRule"
table_text table.EgressRule = codes "EgressRule"
table_text table.EgressDefaultRule = codes "EgressDefaultRule"
table_text table.EgressMetric = codes "EgressMetric"
table_text table.L3Forwarding = codes "L3Forwarding"
table_text table.Snat = codes "SNAT"
table_text table.AntreaPolicyIngressRule = codes "AntreaPolicyIngressRule"
table_text table.IngressRule = codes "IngressRule"
table_text table.IngressDefaultRule = codes "IngressDefaultRule"
table_text table.IngressMetric = codes "IngressMetric"
table_text table.ConntrackCommit = codes "ConntrackCommit"
table_text table.Output = codes "Output"
