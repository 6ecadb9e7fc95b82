use Rattle.std.proofs.Common.{◌≡◌}
use Rattle.stream_messages.proofs.named.into_objects.Given as goal

-- the objects so far
abbrev pub invariant-loop-n : goal.invariant-loop-n
invariant-loop-n l = l.objects.items ≡ l.yielded
