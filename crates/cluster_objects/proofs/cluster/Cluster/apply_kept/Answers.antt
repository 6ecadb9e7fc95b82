use Rattle.std.proofs.Common.{◌≡◌, sym, subst}
use Rattle.cluster_objects.specs.Apply.{numbered}
use Rattle.cluster_objects.proofs.Keeping.{numbered_again}
use Rattle.cluster_types.specs.declared.change.Change.{Change}
use Rattle.cluster_objects.proofs.cluster.Cluster.apply_kept.Goals as goal

pub make-requires-clause-numbered : goal.make-requires-clause-numbered
make-requires-clause-numbered c =
    subst (λ (d : Change). numbered c.args.self.now.cluster d ≡ d) (sym c.in_ok-c.ensures.change) (numbered_again c.args.self.now.cluster c.args.c)
