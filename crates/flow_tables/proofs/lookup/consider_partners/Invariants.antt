use Rattle.std.proofs.Common.{◌≡◌, drop}
use Rattle.flow_tables.specs.Search.{best_of, all_considered, pair_places}
use Rattle.flow_tables.proofs.lookup.consider_partners.Given as goal

abbrev pub invariant-loop-place : goal.invariant-loop-place
invariant-loop-place l = all_considered l.flows l.a (best_of l.best) (pair_places l.index l.flows l.a l.flow (drop l.place-index l.places)) ≡ all_considered l.flows l.a (best_of l.fn.best) (pair_places l.index l.flows l.a l.flow l.places)
