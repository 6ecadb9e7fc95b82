use Rattle.std.proofs.Common.{◌≡◌, drop}
use Rattle.std.specs.List.{list_any, flat_map}
use Rattle.flow_tables.specs.declared.class.Role.TheVariants.{Giving}
use Rattle.flow_tables.specs.Class.{class_at}
use Rattle.flow_tables.specs.Index.{listed}
use Rattle.flow_tables.specs.Search.{gives_at, in_role}
use Rattle.flow_tables.proofs.lookup.is_in_classes.Given as goal

-- what is sought is among the shapes that are left
abbrev pub invariant-loop-shape : goal.invariant-loop-shape
invariant-loop-shape l = list_any (gives_at l.flows l.a l.priority l.id l.k) (flat_map (λ s. listed l.index (class_at l.a (Giving l.priority l.k) s)) (drop l.shape-index l.shape-items)) ≡ list_any (gives_at l.flows l.a l.priority l.id l.k) (in_role l.index l.a (Giving l.priority l.k))
