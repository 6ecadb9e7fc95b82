use Rattle.std.proofs.Common.{◌≡◌, vec_len}
use Rattle.std.specs.Prelude.{reverse}
use Rattle.cluster_objects.specs.Laws.{all_taken_back}
use Rattle.ctl_core.specs.Trying.{CanTakeBack}
use Rattle.ctl_core.proofs.trying.take_all_back.Given as goal

-- those that are left can be taken back, and lead to where all of them lead
abbrev pub invariant-loop-undo : goal.invariant-loop-undo
invariant-loop-undo l = record {
  can : CanTakeBack (reverse l.undoes.items) l.cluster.cluster l.cluster.places;
  leads : all_taken_back l.cluster.cluster (reverse l.undoes.items) ≡ all_taken_back l.initial.cluster.cluster (reverse l.initial.undoes.items);
}

abbrev pub decreases-loop-undo : goal.decreases-loop-undo
decreases-loop-undo l = vec_len l.undoes
