use Rattle.std.proofs.Common.{◌≡◌, filter, map, take}
use Rattle.cl_types.specs.Text.{text_eq}
use Rattle.watch_streams.specs.InForce.{egress_address}
use Rattle.agent_cache.proofs.egresses.own_addresses.Given as goal

abbrev pub invariant-loop-egress : goal.invariant-loop-egress
invariant-loop-egress l =
    l.addresses.items ≡ map egress_address (filter (λ e. text_eq e.node l.node) (take l.egress-index l.egresses))
