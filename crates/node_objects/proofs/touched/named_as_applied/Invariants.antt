use Rattle.std.proofs.Common.{◌≡◌, take}
use Rattle.std.specs.List.{flat_map}
use Rattle.node_objects.specs.Touched.{applied_along}
use Rattle.node_objects.proofs.touched.named_as_applied.Given as goal

-- where the policies so far apply
abbrev pub invariant-loop-policy : goal.invariant-loop-policy
invariant-loop-policy l = l.found.items ≡ flat_map (applied_along l.g) (take l.policy-index l.policies)
