use Rattle.std.proofs.Common.{◌≡◌, false, true, refl, ap, sym, subst, ◌∙◌}
use Rattle.cluster_objects.specs.declared.change.Undo.{Undo}
use Rattle.cluster_objects.specs.Apply.{outcome}
use Rattle.cluster_objects.specs.Changes.{key_of, standing}
use Rattle.cluster_types.specs.declared.change.Change.{Change}
use Rattle.cluster_types.specs.Cluster.{ClusterState}
use Rattle.ctl_core.specs.Line.{other_differs}
use Rattle.ctl_core.specs.Touched.{TouchesOn}
use Rattle.ctl_core.proofs.Changing.{counts_before, differs_so, same_counted, stands_before}
use Rattle.ctl_core.proofs.Coming.{left_alone, nodes_alone, nodes_left, nodes_with, same_left}
use Rattle.ctl_core.proofs.Touches.{touches_on, touches_same}
use Rattle.ctl_core.proofs.side.Side.apply.Goals as goal

pub returns-in_err-applied-clause-nodes : goal.returns-in_err-applied-clause-nodes
returns-in_err-applied-clause-nodes c = nodes_alone c.args.self.now.cluster.cluster c.apply_kept.new.self.cluster c.requires.fixed (left_alone _ _ _ _ c.in_err-applied.ensures.follows)

pub returns-then-not-other_differs-clause-nodes : goal.returns-then-not-other_differs-clause-nodes
returns-then-not-other_differs-clause-nodes c =
    nodes_left c.changes_leave_the_rest.ensures.nodes c.args.self.now.cluster.cluster c.in_ok-copy.field-0 (outcome c.apply_kept.new.self.cluster c.in_ok-applied.field-0.applied) c.keeps_its_form.ensures.cluster c.requires.fixed c.in_ok-applied.ensures.follows

pub returns-then-not-other_differs-clause-counted : goal.returns-then-not-other_differs-clause-counted
returns-then-not-other_differs-clause-counted c =
    let none : other_differs c.in_ok-copy.field-0 c.in_ok-applied.field-0.applied ≡ false = rw c.in_ok-copy.ensures (sym c.other_differs.ensures ∙ c.if-not-other_differs.true) in
    same_counted c.args.self.now.cluster.cluster c.apply_kept.new.self.cluster c.args.self.now.groups
    (same_left c.changes_leave_the_rest.ensures.nodes c.changes_leave_the_rest.ensures.unchanged c.args.self.now.cluster.cluster c.in_ok-copy.field-0 (outcome c.apply_kept.new.self.cluster c.in_ok-applied.field-0.applied)
    c.keeps_its_form.ensures.cluster c.requires.fixed c.in_ok-applied.ensures.follows none)
    c.requires.counted

pub follow-requires-clause-stands : goal.follow-requires-clause-stands
follow-requires-clause-stands c =
    let differs = differs_so c.args.change.now c.in_ok-applied.field-0.applied (sym c.other_differs.ensures ∙ c.if-not-other_differs.false) in
    stands_before c.index_stands_before.ensures.pod_put c.index_stands_before.ensures.pod_removed c.index_stands_before.ensures.namespace_put c.index_stands_before.ensures.namespace_removed
    c.args.self.now.cluster.cluster c.args.change.now (outcome c.apply_kept.new.self.cluster c.in_ok-applied.field-0.applied) _ c.args.self.now.groups c.keeps_its_form.ensures.cluster differs.0 differs.1
    (rw c.in_ok-copy.ensures at c.in_ok-applied.ensures.follows)
    (c.as_ref.ensures.value ∙ (ap (λ (u : Undo). u.old) c.in_ok-applied.ensures.undo ∙ ap (λ d. standing c.args.self.now.cluster.cluster (key_of d)) c.in_ok-copy.ensures))
    c.requires.counted.stands

pub follow-requires-clause-counts : goal.follow-requires-clause-counts
follow-requires-clause-counts c =
    let differs = differs_so c.args.change.now c.in_ok-applied.field-0.applied (sym c.other_differs.ensures ∙ c.if-not-other_differs.false) in
    counts_before c.args.self.now.cluster.cluster c.args.change.now (outcome c.apply_kept.new.self.cluster c.in_ok-applied.field-0.applied) _ c.args.self.now.groups c.keeps_its_form.ensures.cluster differs.0
    (rw c.in_ok-copy.ensures at c.in_ok-applied.ensures.follows)
    (c.as_ref.ensures.value ∙ (ap (λ (u : Undo). u.old) c.in_ok-applied.ensures.undo ∙ ap (λ d. standing c.args.self.now.cluster.cluster (key_of d)) c.in_ok-copy.ensures))
    c.requires.counted

pub returns-in_err-follow-clause-nodes : goal.returns-in_err-follow-clause-nodes
returns-in_err-follow-clause-nodes c =
    nodes_with c.args.self.now.cluster.cluster c.apply_kept.new.self c.follow.new.self.cluster c.follow.ensures.cluster
    (nodes_left c.changes_leave_the_rest.ensures.nodes c.args.self.now.cluster.cluster c.in_ok-copy.field-0 (outcome c.apply_kept.new.self.cluster c.in_ok-applied.field-0.applied) c.keeps_its_form.ensures.cluster c.requires.fixed c.in_ok-applied.ensures.follows)

pub returns-clause-nodes : goal.returns-clause-nodes
returns-clause-nodes c =
    nodes_with c.args.self.now.cluster.cluster c.apply_kept.new.self c.follow.new.self.cluster c.follow.ensures.cluster
    (nodes_left c.changes_leave_the_rest.ensures.nodes c.args.self.now.cluster.cluster c.in_ok-copy.field-0 (outcome c.apply_kept.new.self.cluster c.in_ok-applied.field-0.applied) c.keeps_its_form.ensures.cluster c.requires.fixed c.in_ok-applied.ensures.follows)

pub returns-then-not-other_differs-clause-touched : goal.returns-then-not-other_differs-clause-touched
returns-then-not-other_differs-clause-touched c =
    let none : other_differs c.in_ok-copy.field-0 c.in_ok-applied.field-0.applied ≡ false = rw c.in_ok-copy.ensures (sym c.other_differs.ensures ∙ c.if-not-other_differs.true) in
    touches_same c.args.touched.now.items c.args.self.now.cluster.cluster c.apply_kept.new.self.cluster
    (same_left c.changes_leave_the_rest.ensures.nodes c.changes_leave_the_rest.ensures.unchanged c.args.self.now.cluster.cluster c.in_ok-copy.field-0 (outcome c.apply_kept.new.self.cluster c.in_ok-applied.field-0.applied)
    c.keeps_its_form.ensures.cluster c.requires.fixed c.in_ok-applied.ensures.follows none)

pub returns-clause-touched : goal.returns-clause-touched
returns-clause-touched c =
    let differs = differs_so c.args.change.now c.in_ok-applied.field-0.applied (sym c.other_differs.ensures ∙ c.if-not-other_differs.false) in
    let old = c.as_ref.ensures.value ∙ (ap (λ (u : Undo). u.old) c.in_ok-applied.ensures.undo ∙ ap (λ (d : Change). standing c.args.self.now.cluster.cluster (key_of d)) c.in_ok-copy.ensures) in
    let follows = rw c.in_ok-copy.ensures at c.in_ok-applied.ensures.follows in
    subst (λ (s : ClusterState). TouchesOn c.args.touched.now.items c.follow.new.touched.items c.args.self.now.cluster.cluster s.cluster) (sym c.follow.ensures.cluster)
    (touches_on c.changes_touch.ensures c.group_texts_differ.ensures c.args.self.now.cluster.cluster c.keeps_its_form.ensures.cluster c.args.self.now.groups c.requires.counted c.touched_names_join.ensures.both
    c.args.change.now (outcome c.apply_kept.new.self.cluster c.in_ok-applied.field-0.applied) _ differs.0 follows old c.keeps_its_form-2.ensures.cluster
    (stands_before c.index_stands_before.ensures.pod_put c.index_stands_before.ensures.pod_removed c.index_stands_before.ensures.namespace_put c.index_stands_before.ensures.namespace_removed
    c.args.self.now.cluster.cluster c.args.change.now (outcome c.apply_kept.new.self.cluster c.in_ok-applied.field-0.applied) _ c.args.self.now.groups c.keeps_its_form.ensures.cluster differs.0 differs.1 follows old c.requires.counted.stands)
    c.args.touched.now.items c.follow.new.touched.items c.in_ok-follow.ensures.touched)

pub returns-then-not-other_differs-clause-same : goal.returns-then-not-other_differs-clause-same
returns-then-not-other_differs-clause-same c =
    let none : other_differs c.in_ok-copy.field-0 c.in_ok-applied.field-0.applied ≡ false = rw c.in_ok-copy.ensures (sym c.other_differs.ensures ∙ c.if-not-other_differs.true) in
    record {
      cluster =
          same_left c.changes_leave_the_rest.ensures.nodes c.changes_leave_the_rest.ensures.unchanged c.args.self.now.cluster.cluster c.in_ok-copy.field-0 (outcome c.apply_kept.new.self.cluster c.in_ok-applied.field-0.applied)
          c.keeps_its_form.ensures.cluster c.requires.fixed c.in_ok-applied.ensures.follows none;
      groups = refl;
    }
