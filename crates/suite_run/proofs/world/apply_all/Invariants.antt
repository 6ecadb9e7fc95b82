use Rattle.std.proofs.Common.{◌≡◌, drop}
use Rattle.cluster_objects.specs.Changes.{after}
use Rattle.suite_run.proofs.Gathered.{gathered}
use Rattle.suite_run.proofs.world.apply_all.Given as goal

-- the changes so far with those that are left are all of them
abbrev pub invariant-loop-change : goal.invariant-loop-change
invariant-loop-change l =
    gathered l.made.node l.made.other (after l.cluster.cluster (drop l.change-index l.changes)) ≡ after l.initial.cluster.cluster l.changes
