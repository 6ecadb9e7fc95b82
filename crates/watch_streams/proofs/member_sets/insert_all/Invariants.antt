use Rattle.std.proofs.Common.{◌≡◌, ◌++◌, length}
use Rattle.cl_types.specs.Ascending.{Ascends}
use Rattle.watch_streams.specs.Net.{member_order, ascending_members}
use Rattle.watch_streams.proofs.member_sets.insert_all.Given as goal

abbrev pub invariant-loop-member : goal.invariant-loop-member
invariant-loop-member l = record {
  ascend : Ascends (λ m. m) member_order l.members.items;
  same : ascending_members (l.added ++ l.members.items) ≡ ascending_members (l.fn.added ++ l.fn.members.items);
}

abbrev pub decreases-loop-member : goal.decreases-loop-member
decreases-loop-member l = length l.added
