use Rattle.std.proofs.Common.{◌≡◌, ◌+◌, ◌≤◌, length, drop}
use Rattle.cl_types.specs.Written.{zeros_at_front, longest_run}
use Rattle.cl_types.proofs.writing.longest_zero_run.Given as goal

-- the groups from start on were looked at
abbrev pub invariant-loop-start : goal.invariant-loop-start
invariant-loop-start l = (l.start ≤ length l.groups) × (l.zeros ≡ zeros_at_front (drop l.start l.groups)) × (l.longest ≡ longest_run l.start (drop l.start l.groups)) × (l.longest.start + l.longest.len ≤ length l.groups) × (l.start + l.zeros ≤ length l.groups)

abbrev pub decreases-loop-start : goal.decreases-loop-start
decreases-loop-start l = l.start
