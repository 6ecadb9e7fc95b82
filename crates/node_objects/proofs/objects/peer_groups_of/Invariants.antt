use Rattle.std.proofs.Common.{◌≡◌, take}
use Rattle.std.specs.List.{flat_map}
use Rattle.node_objects.specs.Indexed.{peer_groups_on}
use Rattle.node_objects.proofs.objects.peer_groups_of.Given as goal

-- what the policies so far add
abbrev pub invariant-loop-policy : goal.invariant-loop-policy
invariant-loop-policy l = l.found.items ≡ flat_map (peer_groups_on l.groups l.node) (take l.policy-index l.policies)
