use Rattle.std.proofs.Common.{◌≡◌, ◌++◌, take}
use Rattle.std.specs.List.{flat_map}
use Rattle.node_objects.specs.Indexed.{policy_objects}
use Rattle.node_objects.proofs.objects.push_policies.Given as goal

-- what the policies so far add
abbrev pub invariant-loop-policy : goal.invariant-loop-policy
invariant-loop-policy l = l.found.items ≡ l.initial.found.items ++ flat_map (policy_objects l.groups l.node) (take l.policy-index l.policies)
