use Rattle.std.proofs.Common.{◌≡◌, [], ◌++◌, cond, take}
use Rattle.std.specs.List.{flat_map}
use Rattle.touched_names.specs.Touching.{applies_to_some, policy_names}
use Rattle.touched_names.proofs.touching.push_policies_of.Given as goal

-- the names that the policies so far bring
abbrev pub invariant-loop-policy : goal.invariant-loop-policy
invariant-loop-policy l = l.names.items ≡ l.initial.names.items ++ flat_map (λ p. cond (applies_to_some l.groups p) (policy_names p) []) (take l.policy-index l.policies)
