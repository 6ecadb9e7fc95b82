use Rattle.std.proofs.Common.{◌≡◌, ◌++◌, take}
use Rattle.stream_messages.proofs.groups.copy_groups.Given as goal

-- the groups so far
abbrev pub invariant-loop-g : goal.invariant-loop-g
invariant-loop-g l = l.found.items ≡ l.initial.found.items ++ take l.g-index l.groups
