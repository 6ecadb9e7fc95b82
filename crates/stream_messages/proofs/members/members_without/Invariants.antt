use Rattle.std.proofs.Common.{◌≡◌, take}
use Rattle.watch_streams.specs.Difference.{members_without}
use Rattle.stream_messages.proofs.members.members_without.Given as goal

-- of the members so far, those that the others lack
abbrev pub invariant-loop-m : goal.invariant-loop-m
invariant-loop-m l = l.lacking.items ≡ members_without (take l.m-index l.members) l.others
