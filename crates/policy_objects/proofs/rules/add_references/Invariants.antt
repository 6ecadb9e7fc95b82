use Rattle.std.proofs.Common.{◌≡◌, ◌++◌, map, drop}
use Rattle.serde_json.specs.View.{view}
use Rattle.policy_objects.specs.Rules.{rule_references}
use Rattle.policy_objects.proofs.rules.add_references.Given as goal

-- the references so far with those that are left are all of them
abbrev pub invariant-loop-item : goal.invariant-loop-item
invariant-loop-item l = l.references.items ++ map (rule_references l.dir) (map view (drop l.item-index l.items)) ≡ l.fn.references.items ++ map (rule_references l.dir) (map view l.items)
