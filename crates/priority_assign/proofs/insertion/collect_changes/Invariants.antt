use Rattle.std.proofs.Common.{◌≡◌, ◌+◌, ◌++◌, drop}
use Rattle.priority_assign.specs.Rules.{keys}
use Rattle.priority_assign.specs.Insertion.{evenly, changes}
use Rattle.priority_assign.proofs.insertion.collect_changes.Given as goal

-- what is collected, and what is left to collect
abbrev pub invariant-loop-rule : goal.invariant-loop-rule
invariant-loop-rule l =
    record {
      left : l.i + l.rule-index ≡ l.first;
      done : l.changed.items ++ changes (drop l.rule-index l.rules) (evenly l.spread.lower l.spread.upper l.spread.width l.i (keys (drop l.rule-index l.rules))) ≡ l.initial.changed.items ++ changes l.rules (evenly l.spread.lower l.spread.upper l.spread.width l.first (keys l.rules));
    }
