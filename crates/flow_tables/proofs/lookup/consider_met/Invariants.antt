use Rattle.std.proofs.Common.{◌≡◌, ◌<◌, ◌+◌, ◌-◌, drop, length, get_or}
use Rattle.flow_entries.specs.declared.flow.Clause.{Clause}
use Rattle.flow_tables.specs.Search.{IsPast, best_of, all_considered, shared_places}
use Rattle.flow_tables.proofs.lookup.consider_met.Given as goal

-- what is left makes of the best so far what all clauses make of the best before, and the others before the
-- place are before the next clause
abbrev pub invariant-loop-i : goal.invariant-loop-i
invariant-loop-i l = record {
  whole : all_considered l.flows l.a (best_of l.best) (shared_places l.index l.flow l.mine.k l.other.k l.other.clauses.now (drop l.i l.mine.clauses.now)) ≡ all_considered l.flows l.a (best_of l.fn.best) (shared_places l.index l.flow l.mine.k l.other.k l.other.clauses.now l.mine.clauses.now);
  past : (d : Clause) → l.i < length l.mine.clauses.now → IsPast (get_or l.mine.clauses.now l.i d).id l.other.k l.other.clauses.now l.at;
}

-- with each step one of the two places goes on
abbrev pub decreases-loop-i : goal.decreases-loop-i
decreases-loop-i l = (length l.mine.clauses.now - l.i) + (length l.other.clauses.now - l.at)
