use Rattle.std.proofs.Common.{◌≡◌, drop}
use Rattle.std.specs.List.{list_any}
use Rattle.flow_tables.specs.Search.{gives_at}
use Rattle.flow_tables.proofs.lookup.any_gives.Given as goal

-- what is sought is among the places that are left
abbrev pub invariant-loop-place : goal.invariant-loop-place
invariant-loop-place l = list_any (gives_at l.flows l.a l.priority l.id l.k) (drop l.place-index l.places) ≡ list_any (gives_at l.flows l.a l.priority l.id l.k) l.places
