use Rattle.std.proofs.Common.{◌≡◌, ◌++◌, take, drop, map}
use Rattle.cluster_objects.specs.Apply.{in_tier}
use Rattle.cluster_objects.proofs.cluster.changes.number_rules.Given as goal

-- the rules that have the number, and those to come
abbrev pub invariant-loop-rule : goal.invariant-loop-rule
invariant-loop-rule l =
    take l.rule-index l.rule-items ++ map (in_tier l.number) (drop l.rule-index l.rule-items) ≡ map (in_tier l.number) l.initial.rule-items
