use Rattle.std.proofs.Common.{List, ap, sym, subst, ◌∙◌}
use Rattle.cluster_types.specs.declared.change.Change.{Change}
use Rattle.watch_streams.specs.declared.message.StreamName.{StreamName}
use Rattle.touched_names.specs.Elsewhere.{SameElsewhere}
use Rattle.ctl_core.specs.Touched.{AreTouched, TouchesOn}
use Rattle.ctl_core.specs.Trying.{Leads}
use Rattle.ctl_core.proofs.Making.{led, not_under_way, on_ok}
use Rattle.ctl_core.proofs.Revising.{few_nodes, keeps_on, kept_still}
use Rattle.ctl_core.proofs.Touches.{touched_from}
use Rattle.ctl_core.proofs.controller.Controller.line.Goals as goal

pub invariant_of-self : goal.invariant_of-self
invariant_of-self g c =
    kept_still _ c.is_under_way-self-inside.result c.self.inside.next.cluster.cluster c.make_line-made.new.side.cluster.cluster c.self.inside.next.groups c.make_line-made.new.side.groups c.self.invariant (ap (λ d. d.spent) c.self.view_is ∙ c.requires.unspent)
    (λ none. not_under_way c.make_line-made.result (sym c.is_under_way-self-inside.ensures ∙ none) c.make_line-made.ensures.same)

pub tell_all-requires-clause-touched : goal.tell_all-requires-clause-touched
tell_all-requires-clause-touched g c =
    let first = c.self.inside.next.cluster.cluster in
    let touches : TouchesOn c.new-touched.result.items c.make_line-made.new.touched.items first c.make_line-made.new.side.cluster.cluster = on_ok c.make_line-made.result c.in_ok-made.field-0 c.in_ok-made.was c.make_line-made.ensures.touched in
    subst (λ (names : List StreamName). AreTouched names c.self.inside.present.cluster.cluster c.make_line-made.new.side.cluster.cluster) (sym c.as_slice-2.ensures.value)
    (touched_from _ _ first _ (c.self.invariant.same (ap (λ d. d.spent) c.self.view_is ∙ c.requires.unspent))
    (c.in_ok-touched.ensures first c.make_line-made.new.side.cluster.cluster
    (touches first (subst (λ (names : List StreamName). SameElsewhere names first first) (sym c.new-touched.ensures.items) (c.touched_names_join.ensures.nothing first)))))

pub tell_all-requires-clause-few : goal.tell_all-requires-clause-few
tell_all-requires-clause-few g c = few_nodes _ c.self.invariant.controller

pub invariant_of-self-2 : goal.invariant_of-self-2
invariant_of-self-2 g c =
    keeps_on g.P.Port.state g.P.Port.same c.args.changes _ c.self.inside.next.cluster.cluster c.make_line-made.new.side.cluster.cluster c.tell_all.new.present.cluster.cluster _ _ _ _ c.tell_all.new.nodes.items
    c.self.invariant (ap (λ d. d.spent) c.self.view_is ∙ c.requires.unspent)
    (led c.make_line-made.result c.in_ok-made.field-0 c.as_slice.result.now c.args.changes c.self.inside.next.cluster.cluster c.make_line-made.new.side.cluster.cluster c.in_ok-made.was c.as_slice.ensures c.make_line-made.ensures.made)
    (subst (λ (xs : List Change). Leads xs c.self.inside.present.cluster.cluster c.tell_all.new.present.cluster.cluster) c.as_slice-3.ensures c.in-Ok.ensures.leads)
    c.in-Ok.ensures.nodes c.keeps_its_form-2.ensures.cluster c.has_all_in_use.ensures c.in-Ok.ensures.counted (on_ok c.make_line-made.result c.in_ok-made.field-0 c.in_ok-made.was c.make_line-made.ensures.counted) c.in-Ok.ensures.told
