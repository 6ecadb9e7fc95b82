use Rattle.std.proofs.Common.{◌≡◌, take}
use Rattle.std.specs.List.{flat_map}
use Rattle.std.specs.Option.{option_copied}
use Rattle.group_index.specs.Settled.{addresses_if}
use Rattle.group_index.proofs.concern.namespace_addresses.Given as goal

-- those of the pods so far
abbrev pub invariant-loop-i : goal.invariant-loop-i
invariant-loop-i l = l.addresses.items ≡ flat_map (addresses_if (option_copied l.old) l.name) (take l.i l.pods)
