use Rattle.std.proofs.Common.{◌≡◌, drop}
use Rattle.flow_tables.specs.Search.{best_of, all_considered, shared_places}
use Rattle.flow_tables.proofs.lookup.consider_shared.Given as goal

-- what is left makes of the best so far what all clauses make of the best before
abbrev pub invariant-loop-clause : goal.invariant-loop-clause
invariant-loop-clause l = all_considered l.flows l.a (best_of l.best) (shared_places l.index l.flow l.mine.k l.other.k l.other.clauses.now (drop l.clause-index l.mine.clauses.now)) ≡ all_considered l.flows l.a (best_of l.fn.best) (shared_places l.index l.flow l.mine.k l.other.k l.other.clauses.now l.mine.clauses.now)
