use Rattle.std.proofs.Common.{◌≡◌}
use Rattle.stream_messages.proofs.named.without_texts.Given as goal

-- the groups so far
abbrev pub invariant-loop-t : goal.invariant-loop-t
invariant-loop-t l = l.groups.items ≡ l.yielded
