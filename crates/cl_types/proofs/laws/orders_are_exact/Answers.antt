use Rattle.cl_types.specs.OrderLaws.{addr_order_exact, policy_order_exact, pod_order_exact, rule_order_exact}
use Rattle.cl_types.proofs.laws.orders_are_exact.Goals as goal

pub returns-clause-addresses : goal.returns-clause-addresses
returns-clause-addresses c = addr_order_exact

pub returns-clause-policies : goal.returns-clause-policies
returns-clause-policies c = policy_order_exact

pub returns-clause-rules : goal.returns-clause-rules
returns-clause-rules c = rule_order_exact

pub returns-clause-pods : goal.returns-clause-pods
returns-clause-pods c = pod_order_exact
