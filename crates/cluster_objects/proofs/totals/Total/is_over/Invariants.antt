use Rattle.std.proofs.Common.{◌≡◌, ◌+◌, drop}
use Rattle.cl_types.specs.Ascending.{put, without}
use Rattle.cluster_objects.specs.Apply.{at_policy}
use Rattle.cluster_objects.specs.Refusals.{counted}
use Rattle.cluster_types.specs.Counts.{total}
use Rattle.cluster_objects.proofs.totals.Total.is_over.Given as goal

-- the total and the room that is left are the limit and what the policies to come have
abbrev pub invariant-loop-other : goal.invariant-loop-other
invariant-loop-other l =
    total (counted l.self) (put (at_policy l.policy.key) l.policy l.policies) + l.room
    ≡ l.limit + total (counted l.self) (without (at_policy l.policy.key) (drop l.other-index l.policies))
