use Rattle.std.proofs.Common.{◌≡◌, ◌+◌, drop}
use Rattle.suite_run.specs.Fixing.{nodes_in_front}
use Rattle.suite_run.proofs.fixing.nodes_in_front.Given as goal

-- those so far with those in front of what is left are all of them
abbrev pub invariant-loop-change : goal.invariant-loop-change
invariant-loop-change l = record {
  at : l.count ≡ l.change-index;
  front : l.count + nodes_in_front (drop l.change-index l.changes) ≡ nodes_in_front l.fn.changes;
}
