use Rattle.std.proofs.Common.{◌≡◌, ◌≤◌, ◌+◌, false, drop, vec_len, vec_capacity}
use Rattle.std.specs.Prelude.{reverse}
use Rattle.cluster_objects.specs.Changes.{after}
use Rattle.cluster_objects.specs.Laws.{all_taken_back}
use Rattle.ctl_core.specs.Line.{LeavesNodes, came}
use Rattle.ctl_core.specs.Trying.{CanTakeBack}
use Rattle.ctl_core.proofs.Coming.{came_after}
use Rattle.ctl_core.proofs.trying.try_all.Given as goal

-- the changes so far with those that are left are all of them, and they can be taken back
abbrev pub invariant-loop-change : goal.invariant-loop-change
invariant-loop-change l = record {
  came : came_after l.differs (after l.cluster.cluster (drop l.change-index l.changes)) ≡ came (after l.initial.cluster.cluster l.changes);
  nodes : LeavesNodes l.initial.cluster.cluster l.cluster.cluster;
  same : l.differs ≡ false → l.cluster.cluster ≡ l.initial.cluster.cluster;
  can : CanTakeBack (reverse l.undoes.items) l.cluster.cluster l.cluster.places;
  leads : all_taken_back l.cluster.cluster (reverse l.undoes.items) ≡ l.initial.cluster.cluster;
  len : vec_len l.undoes ≤ l.change-index;
  capacity : vec_capacity l.initial.undoes ≤ vec_capacity l.undoes;
}
