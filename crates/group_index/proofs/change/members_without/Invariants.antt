use Rattle.std.proofs.Common.{◌≡◌, take}
use Rattle.group_index.specs.Changes.{members_without}
use Rattle.group_index.proofs.change.members_without.Given as goal

-- of the members so far, those that the others lack
abbrev pub invariant-loop-m : goal.invariant-loop-m
invariant-loop-m l = l.lacking.items ≡ members_without (take l.m-index l.members) l.others
