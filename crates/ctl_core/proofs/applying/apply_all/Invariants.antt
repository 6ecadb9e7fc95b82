use Rattle.std.proofs.Common.{◌≡◌, Bool, drop}
use Rattle.cluster_objects.specs.Changes.{after}
use Rattle.ctl_core.specs.Line.{LeavesNodes, came}
use Rattle.ctl_core.specs.Touched.{TouchesOn}
use Rattle.ctl_core.specs.Uses.{IsCounted}
use Rattle.ctl_core.proofs.Coming.{came_after}
use Rattle.ctl_core.proofs.applying.apply_all.Given as goal

-- the changes so far with those that are left are all of them, uses are counted, and the names tell all so far
abbrev pub invariant-loop-change : goal.invariant-loop-change
invariant-loop-change l = record {
  leads : (d : Bool) × (came_after d (after l.side.cluster.cluster (drop l.change-index l.changes)) ≡ came (after l.initial.side.cluster.cluster l.changes));
  nodes : LeavesNodes l.initial.side.cluster.cluster l.side.cluster.cluster;
  touched : TouchesOn l.initial.touched.items l.touched.items l.initial.side.cluster.cluster l.side.cluster.cluster;
  counted : IsCounted l.side.cluster.cluster l.side.groups;
}
