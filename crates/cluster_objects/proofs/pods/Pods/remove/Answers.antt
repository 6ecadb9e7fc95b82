use Rattle.std.proofs.Common.{ap, sym, ◌∙◌}
use Rattle.cl_types.specs.Ascending.{found, without}
use Rattle.cl_types.specs.AscendingLaws.{found_in_gap, without_in_gap}
use Rattle.cluster_objects.specs.Addresses.{PodsData}
use Rattle.cluster_objects.specs.Apply.{at_pod}
use Rattle.cluster_objects.proofs.pods.Pods.remove.Goals as goal

pub returns-in-Err-clause-item : goal.returns-in-Err-clause-item
returns-in-Err-clause-item c =
    let p = rw c.as_slice.ensures.value at c.in-Err.ensures.absent in
    sym (found_in_gap (at_pod c.args.key.now) c.self.inside.pods.items _ p.within p.before p.after) ∙ ap (λ (v : PodsData). found (at_pod c.args.key.now) v.pods) c.self.view_is

pub returns-in-Err-clause-items : goal.returns-in-Err-clause-items
returns-in-Err-clause-items c =
    let p = rw c.as_slice.ensures.value at c.in-Err.ensures.absent in
    ap (λ (v : PodsData). v.pods) (sym c.self.view_is)
    ∙ (sym (without_in_gap (at_pod c.args.key.now) c.self.inside.pods.items _ p.within p.before p.after) ∙ ap (λ (v : PodsData). without (at_pod c.args.key.now) v.pods) c.self.view_is)
