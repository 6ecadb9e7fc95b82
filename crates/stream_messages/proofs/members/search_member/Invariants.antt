use Rattle.std.proofs.Common.{◌≡◌, take, false}
use Rattle.watch_streams.specs.Difference.{has_member}
use Rattle.stream_messages.proofs.members.search_member.Given as goal

-- it is none of those that were looked at
abbrev pub invariant-loop-i : goal.invariant-loop-i
invariant-loop-i l = has_member (take l.i l.members) l.m ≡ false
