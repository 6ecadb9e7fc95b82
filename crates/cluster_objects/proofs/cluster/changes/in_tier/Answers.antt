use Rattle.std.proofs.Common.{List, sym}
use Rattle.cluster_types.specs.declared.policy.Rule.{Rule}
use Rattle.cluster_types.specs.Policy.{PolicyData}
use Rattle.cluster_objects.proofs.Numbered.{is_policy_still}
use Rattle.cluster_objects.proofs.cluster.changes.in_tier.Goals as goal

abbrev with_rules : PolicyData → List Rule → PolicyData
with_rules p rules = record p { rules = rules }

pub invariant_of-result : goal.invariant_of-result
invariant_of-result c =
    let not_kube = rw (sym c.policy.view_is) at c.requires in
    let still = is_policy_still c.args.number _ not_kube c.policy.invariant in
    rw (c.number_rules.ensures, c.vec_mut.ensures.value) still
