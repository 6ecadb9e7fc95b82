use Rattle.std.proofs.Common.{◌≡◌, ◌++◌, map, drop}
use Rattle.serde_json.specs.View.{view}
use Rattle.policy_objects.specs.Rules.{rules_from}
use Rattle.policy_objects.proofs.rules.add_rules.Given as goal

-- the rules so far with those that are left are all of them
abbrev pub invariant-loop-index : goal.invariant-loop-index
invariant-loop-index l = l.rules.items ++ rules_from l.frame l.dir l.index (map view (drop l.index l.items)) ≡ l.fn.rules.items ++ rules_from l.frame l.dir 0 (map view l.items)
