use Rattle.std.proofs.Common.{◌≡◌}
use Rattle.stream_messages.proofs.named.with_titles.Given as goal

-- the names so far
abbrev pub invariant-loop-name : goal.invariant-loop-name
invariant-loop-name l = l.titled.items ≡ l.yielded
