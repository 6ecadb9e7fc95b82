use Rattle.std.proofs.Common.{◌≡◌, filter, take}
use Rattle.std.specs.List.{flat_map}
use Rattle.watch_streams.specs.InForce.{rules_of}
use Rattle.touched_rules.specs.Touching.{touches}
use Rattle.touched_rules.proofs.rules.all_touched.Given as goal

abbrev pub invariant-loop-policy : goal.invariant-loop-policy
invariant-loop-policy l =
    l.rules.items ≡ flat_map rules_of (filter (touches l.s l.changes) (take l.policy-index l.policies))
