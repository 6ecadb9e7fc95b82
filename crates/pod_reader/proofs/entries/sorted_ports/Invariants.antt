use Rattle.std.proofs.Common.{◌≡◌}
use Rattle.pod_reader.proofs.entries.sorted_ports.Given as goal

-- the ports so far are those of the entries so far
abbrev pub invariant-loop-entry : goal.invariant-loop-entry
invariant-loop-entry l = l.sorted.items ≡ l.yielded
