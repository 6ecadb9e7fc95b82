use Rattle.std.proofs.Common.{◌≡◌, map, take, true}
use Rattle.agent_cache.proofs.isolation.as_changes.Given as goal

abbrev pub invariant-loop-address : goal.invariant-loop-address
invariant-loop-address l =
    l.changes.items ≡ map (λ a. record { dir = l.dir; address = a; now = true }) (take l.address-index l.addresses)
