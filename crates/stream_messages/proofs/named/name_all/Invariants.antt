use Rattle.std.proofs.Common.{◌≡◌}
use Rattle.stream_messages.proofs.named.name_all.Given as goal

-- the objects so far
abbrev pub invariant-loop-object : goal.invariant-loop-object
invariant-loop-object l = l.named.items ≡ l.yielded
