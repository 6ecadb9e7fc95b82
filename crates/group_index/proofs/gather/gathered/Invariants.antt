use Rattle.std.proofs.Common.{◌≡◌, take}
use Rattle.std.specs.List.{flat_map}
use Rattle.group_index.specs.Members.{members_if}
use Rattle.group_index.proofs.gather.gathered.Given as goal

-- the members of the pods so far
abbrev pub invariant-loop-i : goal.invariant-loop-i
invariant-loop-i l = l.members.items ≡ flat_map (members_if l.c.cluster l.g) (take l.i l.pods)
