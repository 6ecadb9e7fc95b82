use Rattle.std.proofs.Common.{take}
use Rattle.cluster_objects.specs.Addresses.{shares_address, IsFirst}
use Rattle.cluster_objects.proofs.pods.taking_place.Given as goal

-- the first place among those of the addresses that were looked at
abbrev pub invariant-loop-a : goal.invariant-loop-a
invariant-loop-a l = IsFirst (shares_address l.pod.key (take l.a-index l.a-items)) l.pods l.first
