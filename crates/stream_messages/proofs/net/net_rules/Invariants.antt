use Rattle.std.proofs.Common.{◌≡◌, map, take}
use Rattle.watch_streams.specs.Projection.{net_rule}
use Rattle.stream_messages.proofs.net.net_rules.Given as goal

-- the rules so far
abbrev pub invariant-loop-rule : goal.invariant-loop-rule
invariant-loop-rule l = l.net.items ≡ map net_rule (take l.rule-index l.rules)
