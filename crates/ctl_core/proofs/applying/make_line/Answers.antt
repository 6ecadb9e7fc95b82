use Rattle.std.proofs.Common.{List, sym, subst}
use Rattle.cluster_types.specs.declared.change.Change.{Change}
use Rattle.cluster_objects.specs.Changes.{after}
use Rattle.ctl_core.specs.Line.{ComesTo, came}
use Rattle.ctl_core.proofs.Making.{alone, one_alone}
use Rattle.ctl_core.proofs.applying.make_line.Goals as goal

pub returns-then-changes-eq1-clause-made : goal.returns-then-changes-eq1-clause-made
returns-then-changes-eq1-clause-made c =
    subst (λ (xs : List Change). ComesTo (came (after c.args.side.now.cluster.cluster xs)) c.apply.result c.apply.new.self.cluster.cluster)
    (sym (alone c.args.changes.now c.index-changes-0.result c.if-changes-eq1.true c.index-changes-0.is))
    (one_alone c.args.side.now.cluster.cluster c.apply.new.self.cluster.cluster c.index-changes-0.result c.apply.result c.apply.ensures.made)
