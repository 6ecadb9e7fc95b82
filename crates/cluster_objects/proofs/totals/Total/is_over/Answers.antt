use Rattle.std.proofs.Common.{arith}
use Rattle.std.proofs.lemmas.Bool.Decides.{nat_tests}
use Rattle.cl_types.specs.RuleOrder.{policy_order_total}
use Rattle.cluster_types.specs.Policy.{PolicyData}
use Rattle.cluster_objects.specs.Refusals.{counted}
use Rattle.cluster_objects.proofs.Puts.{total_put}
use Rattle.cluster_objects.proofs.totals.Total.is_over.Goals as goal

pub loop-other-init : goal.loop-other-init
loop-other-init c =
    let put_is = total_put (λ (p : PolicyData). p.key) policy_order_total (counted c.args.self) c.args.policy.now c.args.policies.now c.requires in
    omega (arith, put_is, c.counted-own.ensures)

pub returns-then-limit-own : goal.returns-then-limit-own
returns-then-limit-own c =
    let put_is = total_put (λ (p : PolicyData). p.key) policy_order_total (counted c.args.self) c.args.policy.now c.args.policies.now c.requires in
    grind (arith, nat_tests, put_is, c.counted-own.ensures, c.if-limit-own.true)
