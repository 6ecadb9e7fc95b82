use Rattle.std.proofs.Common.{◌≡◌, false, sym, subst, ◌∙◌}
use Rattle.cluster_objects.specs.declared.change.Undo.{Undo}
use Rattle.cluster_objects.specs.Apply.{outcome}
use Rattle.cluster_objects.specs.Changes.{taken_back}
use Rattle.ctl_core.specs.Line.{other_differs}
use Rattle.ctl_core.proofs.Coming.{left_alone, nodes_left, same_left}
use Rattle.ctl_core.proofs.TakingBack.{can_more, can_still, leads_more}
use Rattle.ctl_core.proofs.trying.try_one.Goals as goal

pub returns-in_err-applied-clause-back : goal.returns-in_err-applied-clause-back
returns-in_err-applied-clause-back c =
    can_still c.args.undoes.now.items c.args.cluster.now c.apply_kept.new.self (left_alone _ _ _ _ c.in_err-applied.ensures.follows) c.in_err-applied.ensures.places c.requires.back

pub returns-clause-nodes : goal.returns-clause-nodes
returns-clause-nodes c =
    nodes_left c.changes_leave_the_rest.ensures.nodes c.args.cluster.now.cluster c.in_ok-copy.field-0 (outcome c.apply_kept.new.self.cluster c.in_ok-applied.field-0.applied)
    c.keeps_its_form.ensures.cluster c.requires.fixed c.in_ok-applied.ensures.follows

pub returns-clause-same : goal.returns-clause-same
returns-clause-same c = λ none.
    let same : other_differs c.in_ok-copy.field-0 c.in_ok-applied.field-0.applied ≡ false = rw c.in_ok-copy.ensures (sym c.other_differs.ensures ∙ none) in
    same_left c.changes_leave_the_rest.ensures.nodes c.changes_leave_the_rest.ensures.unchanged c.args.cluster.now.cluster c.in_ok-copy.field-0
    (outcome c.apply_kept.new.self.cluster c.in_ok-applied.field-0.applied) c.keeps_its_form.ensures.cluster c.requires.fixed c.in_ok-applied.ensures.follows same

pub returns-clause-back : goal.returns-clause-back
returns-clause-back c =
    let law = c.undoes_take_back.ensures.one c.args.cluster.now.cluster c.in_ok-copy.field-0 (outcome c.apply_kept.new.self.cluster c.in_ok-applied.field-0.applied) c.keeps_its_form.ensures.cluster c.in_ok-applied.ensures.follows in
    let back : taken_back c.apply_kept.new.self.cluster c.in_ok-applied.field-0.undo ≡ c.args.cluster.now.cluster = subst (λ (u : Undo). taken_back c.apply_kept.new.self.cluster u ≡ c.args.cluster.now.cluster) (sym c.in_ok-applied.ensures.undo) law in
    can_more c.args.undoes.now.items c.keep.new.undoes.items c.in_ok-applied.field-0.undo c.args.cluster.now c.apply_kept.new.self c.keeps_its_form.ensures c.in_ok-applied.ensures.places back c.keep.ensures.items c.requires.back

pub returns-clause-leads : goal.returns-clause-leads
returns-clause-leads c =
    let law = c.undoes_take_back.ensures.one c.args.cluster.now.cluster c.in_ok-copy.field-0 (outcome c.apply_kept.new.self.cluster c.in_ok-applied.field-0.applied) c.keeps_its_form.ensures.cluster c.in_ok-applied.ensures.follows in
    let back : taken_back c.apply_kept.new.self.cluster c.in_ok-applied.field-0.undo ≡ c.args.cluster.now.cluster = subst (λ (u : Undo). taken_back c.apply_kept.new.self.cluster u ≡ c.args.cluster.now.cluster) (sym c.in_ok-applied.ensures.undo) law in
    leads_more c.args.undoes.now.items c.keep.new.undoes.items c.in_ok-applied.field-0.undo c.args.cluster.now.cluster c.apply_kept.new.self.cluster back c.keep.ensures.items
