use Rattle.std.proofs.Common.{sym, ◌∙◌, ap}
use Rattle.cl_types.specs.Text.{text_eq}
use Rattle.cluster_types.specs.Tier.{TierData}
use Rattle.cluster_objects.proofs.Tiers.{stands_there}
use Rattle.cluster_objects.proofs.cluster.changes.remove_named.Goals as goal

-- the tier that was found by its name stands at its priority
pub returns-clause-old : goal.returns-clause-old
returns-clause-old c =
    let at = ap (λ (t : TierData). t.priority) c.branch.view_is in
    let named = rw c.as_slice.ensures.value at c.in_ok-priority.ensures in
    c.remove.ensures.item ∙ (rw at (stands_there (λ (t : TierData). text_eq t.name c.args.name.now) c.in_ok-priority.field-0.now _ c.requires.ascends (sym named)) ∙ named)
