use Rattle.std.proofs.Common.{of_calls, sym}
use Rattle.std.proofs.lemmas.List.Sorted.{IsPartitionPoint-from_clause}
use Rattle.std.specs.Ordering.{is_lt}
use Rattle.cl_types.specs.RuleOrder.{rule_order, rule_order_total}
use Rattle.priority_assign.specs.Rules.{keys, is_before}
use Rattle.priority_assign.proofs.Ordered.{IsPartitionedBy-is_lt, IsPartitionedBy-keys, prefix_len-partition}
use Rattle.priority_assign.proofs.insertion.place_of.Goals as goal

pub returns-clause-place : goal.returns-clause-place
unfolding is_before
returns-clause-place c =
    let rules = c.args.rules.now in
    let k = c.args.k.now in
    let parted = IsPartitionedBy-keys (λ x. x.key) (λ q. is_lt (rule_order q k)) rules (IsPartitionedBy-is_lt rule_order_total k (keys rules) c.requires) in
    let point = IsPartitionPoint-from_clause (is_before k) rules c.partition_point.result c.partition_point.ensures.partitioned parted (λ a r q called. search (rules, of_calls)) in
    sym (prefix_len-partition (is_before k) rules c.partition_point.result c.partition_point.ensures.bound point)
