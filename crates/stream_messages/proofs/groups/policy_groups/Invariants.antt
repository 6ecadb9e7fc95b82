use Rattle.std.proofs.Common.{◌≡◌, take}
use Rattle.std.specs.List.{flat_map}
use Rattle.cluster_types.specs.declared.policy.Rule.{Rule}
use Rattle.watch_streams.specs.Projection.{rule_groups}
use Rattle.stream_messages.proofs.groups.policy_groups.Given as goal

-- the groups of the rules so far
abbrev pub invariant-loop-rule : goal.invariant-loop-rule
invariant-loop-rule l = l.groups.items ≡ flat_map (λ (r : Rule). rule_groups r r.peers) (take l.rule-index l.rules)
