use Rattle.std.proofs.Common.{◌≡◌, ◌++◌, take}
use Rattle.std.specs.List.{flat_map}
use Rattle.node_objects.specs.Indexed.{egress_applied_on}
use Rattle.node_objects.proofs.objects.push_egresses_applied.Given as goal

-- what the Egresses so far add
abbrev pub invariant-loop-egress : goal.invariant-loop-egress
invariant-loop-egress l = l.found.items ≡ l.initial.found.items ++ flat_map (egress_applied_on l.c.cluster l.groups l.node) (take l.egress-index l.egresses)
