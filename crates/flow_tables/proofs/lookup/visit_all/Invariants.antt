use Rattle.std.proofs.Common.{◌≡◌, drop}
use Rattle.flow_tables.specs.Search.{best_of, all_visited}
use Rattle.flow_tables.proofs.lookup.visit_all.Given as goal

-- what is left makes of the best so far what all places make of the best before
abbrev pub invariant-loop-place : goal.invariant-loop-place
invariant-loop-place l = all_visited l.index l.flows l.a (best_of l.best) (drop l.place-index l.places) ≡ all_visited l.index l.flows l.a (best_of l.fn.best) l.places
