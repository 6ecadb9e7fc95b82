use Rattle.std.proofs.Common.{◌≡◌, ◌+◌, ◌++◌, take, drop}
use Rattle.priority_assign.specs.Rules.{keys}
use Rattle.priority_assign.specs.Insertion.{evenly}
use Rattle.priority_assign.proofs.insertion.renumber.Given as goal

-- what is numbered, and what is left to number
abbrev pub invariant-loop-rule : goal.invariant-loop-rule
invariant-loop-rule l =
    record {
      left : l.i + l.rule-index ≡ l.spread.width;
      done : take l.rule-index l.rules ++ evenly l.spread.lower l.spread.upper l.spread.width l.i (keys (drop l.rule-index l.rules)) ≡ evenly l.spread.lower l.spread.upper l.spread.width l.spread.width (keys l.initial.rules);
    }
