use Rattle.std.proofs.Common.{◌≡◌, drop}
use Rattle.flow_tables.specs.Search.{best_of, all_considered}
use Rattle.flow_tables.proofs.lookup.consider_all.Given as goal

-- what is left makes of the best so far what the whole makes of the old one
abbrev pub invariant-loop-place : goal.invariant-loop-place
invariant-loop-place l = all_considered l.flows l.a (best_of l.best) (drop l.place-index l.places) ≡ all_considered l.flows l.a (best_of l.fn.best) l.places
