use Rattle.std.proofs.Common.{◌≡◌, drop}
use Rattle.flow_tables.specs.Order.{without, IsPlaced}
use Rattle.flow_tables.proofs.tables.remove_flows.Given as goal

-- what is left makes of the flows what the whole list makes of the old ones
abbrev pub invariant-loop-flow : goal.invariant-loop-flow
invariant-loop-flow l = record {
  whole : without (drop l.flow-index l.removed) l.flows ≡ without l.fn.removed l.fn.flows;
  placed : IsPlaced l.flows l.places.items;
}
