use Rattle.std.proofs.Common.{◌≡◌, ◌≤◌, length, drop}
use Rattle.std.specs.Cmp.Lexicographic.{slice_cmp}
use Rattle.watch_streams.specs.Net.{numbered_port_order}
use Rattle.watch_streams.proofs.member_sets.ports_cmp.Given as goal

abbrev pub invariant-loop-i : goal.invariant-loop-i
invariant-loop-i l = record {
  within : l.i ≤ length l.b;
  same : slice_cmp numbered_port_order l.a l.b ≡ slice_cmp numbered_port_order (drop l.i l.a) (drop l.i l.b);
}
