use Rattle.std.proofs.Common.{◌≡◌, drop}
use Rattle.flow_tables.specs.Order.{with_flows, IsPlaced}
use Rattle.flow_tables.proofs.tables.put_flows.Given as goal

-- what is left makes of the flows what the whole list makes of the old ones
abbrev pub invariant-loop-flow : goal.invariant-loop-flow
invariant-loop-flow l = record {
  whole : with_flows (drop l.flow-index l.more) l.flows ≡ with_flows l.fn.more l.fn.flows;
  placed : IsPlaced l.flows l.places.items;
}
