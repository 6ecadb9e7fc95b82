use Rattle.std.proofs.Common.{◌≡◌, drop}
use Rattle.cl_types.specs.Ascending.{Ascends}
use Rattle.watch_streams.specs.Difference.{members_without}
use Rattle.watch_streams.specs.Net.{member_order}
use Rattle.watch_streams.proofs.member_sets.remove_all.Given as goal

abbrev pub invariant-loop-i : goal.invariant-loop-i
invariant-loop-i l = record {
  ascend : Ascends (λ m. m) member_order l.members.items;
  same : members_without l.members.items (drop l.i l.removed) ≡ members_without l.fn.members.items l.removed;
}
