use Rattle.std.proofs.Common.{◌≡◌, map, take, true}
use Rattle.agent_cache.proofs.egresses.as_changes.Given as goal

abbrev pub invariant-loop-address : goal.invariant-loop-address
invariant-loop-address l =
    l.changes.items ≡ map (λ a. record { address = a; now = true }) (take l.address-index l.addresses)
