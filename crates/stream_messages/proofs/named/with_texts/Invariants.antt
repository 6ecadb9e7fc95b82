use Rattle.std.proofs.Common.{◌≡◌}
use Rattle.stream_messages.proofs.named.with_texts.Given as goal

-- the groups so far
abbrev pub invariant-loop-g : goal.invariant-loop-g
invariant-loop-g l = l.titled.items ≡ l.yielded
