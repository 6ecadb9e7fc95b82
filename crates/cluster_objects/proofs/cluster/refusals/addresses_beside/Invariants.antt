use Rattle.std.proofs.Common.{◌≡◌, take}
use Rattle.cluster_types.specs.Egress.{addresses_beside}
use Rattle.cluster_objects.proofs.cluster.refusals.addresses_beside.Given as goal

-- so far the addresses of those that were looked at
abbrev pub invariant-loop-other : goal.invariant-loop-other
invariant-loop-other l = l.addresses.items ≡ addresses_beside l.egress (take l.other-index l.others)
