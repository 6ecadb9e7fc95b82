use Rattle.cl_types.specs.Addr.{addr_order_total}
use Rattle.cl_types.specs.RuleOrder.{pod_order_total, policy_order_total, rule_order_total}
use Rattle.cl_types.proofs.laws.orders_are_total.Goals as goal

pub returns-clause-addresses : goal.returns-clause-addresses
returns-clause-addresses c = addr_order_total

pub returns-clause-pods : goal.returns-clause-pods
returns-clause-pods c = pod_order_total

pub returns-clause-policies : goal.returns-clause-policies
returns-clause-policies c = policy_order_total

pub returns-clause-rules : goal.returns-clause-rules
returns-clause-rules c = rule_order_total
