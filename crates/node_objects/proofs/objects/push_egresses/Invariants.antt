use Rattle.std.proofs.Common.{◌≡◌, ◌++◌, take}
use Rattle.std.specs.List.{flat_map}
use Rattle.node_objects.specs.Indexed.{egress_objects}
use Rattle.node_objects.proofs.objects.push_egresses.Given as goal

-- what the Egresses so far add
abbrev pub invariant-loop-egress : goal.invariant-loop-egress
invariant-loop-egress l = l.found.items ≡ l.initial.found.items ++ flat_map (egress_objects l.c.cluster l.groups l.node) (take l.egress-index l.egresses)
