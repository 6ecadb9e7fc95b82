use Rattle.std.proofs.Common.{◌≡◌, None, drop}
use Rattle.std.specs.List.{flat_map}
use Rattle.flow_tables.specs.declared.class.Role.TheVariants.{Start}
use Rattle.flow_tables.specs.Class.{class_at}
use Rattle.flow_tables.specs.Index.{listed}
use Rattle.flow_tables.specs.Search.{best_of, all_visited, in_role}
use Rattle.flow_tables.proofs.lookup.visit_classes.Given as goal

-- what is left makes of the best so far what all shapes make of none
abbrev pub invariant-loop-shape : goal.invariant-loop-shape
invariant-loop-shape l = all_visited l.index l.flows l.a (best_of l.best) (flat_map (λ s. listed l.index (class_at l.a Start s)) (drop l.shape-index l.shape-items)) ≡ all_visited l.index l.flows l.a None (in_role l.index l.a Start)
