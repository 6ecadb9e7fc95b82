use Rattle.std.proofs.Common.{◌≡◌, drop}
use Rattle.std.specs.List.{flat_map}
use Rattle.flow_tables.specs.declared.class.Role.TheVariants.{Giving}
use Rattle.flow_tables.specs.Class.{class_at}
use Rattle.flow_tables.specs.Index.{listed}
use Rattle.flow_tables.specs.Search.{best_of, all_considered, pair_places, in_role}
use Rattle.flow_tables.proofs.lookup.consider_conj.Given as goal

-- what is left makes of the best so far what all shapes make of the best before
abbrev pub invariant-loop-shape : goal.invariant-loop-shape
invariant-loop-shape l = all_considered l.flows l.a (best_of l.best) (pair_places l.index l.flows l.a l.flow (flat_map (λ s. listed l.index (class_at l.a (Giving l.flow.priority 2) s)) (drop l.shape-index l.shape-items))) ≡ all_considered l.flows l.a (best_of l.fn.best) (pair_places l.index l.flows l.a l.flow (in_role l.index l.a (Giving l.flow.priority 2)))
