use Rattle.std.proofs.Common.{◌≡◌, take}
use Rattle.std.specs.List.{flat_map}
use Rattle.watch_streams.specs.InForce.{rules_of}
use Rattle.touched_rules.proofs.rules.all_rules.Given as goal

abbrev pub invariant-loop-policy : goal.invariant-loop-policy
invariant-loop-policy l =
    l.rules.items ≡ flat_map rules_of (take l.policy-index l.policies)
