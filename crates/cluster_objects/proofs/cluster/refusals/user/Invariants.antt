use Rattle.std.proofs.Common.{◌≡◌, drop, find}
use Rattle.cluster_objects.specs.Refusals.{names_tier}
use Rattle.cluster_objects.proofs.cluster.refusals.user.Given as goal

-- what is sought is among the policies that are left
abbrev pub invariant-loop-policy : goal.invariant-loop-policy
invariant-loop-policy l = find (names_tier l.name) (drop l.policy-index l.policies) ≡ find (names_tier l.name) l.policies
