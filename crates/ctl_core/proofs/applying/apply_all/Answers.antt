use Rattle.std.proofs.Common.{Bool, false, ◌+◌, ◌||◌, ◌∷◌, drop, refl, sym, ap, ◌∙◌, arith}
use Rattle.std.proofs.lemmas.List.{at_drop_all, at_drop_more}
use Rattle.cluster_objects.specs.Changes.{after}
use Rattle.ctl_core.proofs.Coming.{came_after, came_first, nodes_on, one_made}
use Rattle.ctl_core.proofs.applying.apply_all.Goals as goal

pub loop-change-init : goal.loop-change-init
loop-change-init c = record {
  leads = (false, came_first (after c.args.side.now.cluster.cluster c.args.changes.now));
  nodes = record { nodes = refl; fixed = c.requires.fixed };
  touched = λ start same. same;
  counted = c.requires.counted;
}

pub loop-change-preserved : goal.loop-change-preserved
loop-change-preserved c =
    let d : Bool = c.loop-change.invariant.leads.0 in
    record {
      leads = (
        d || c.in-Ok.field-0,
        sym (one_made d c.in-Ok.field-0 c.loop-change.side.cluster.cluster c.apply.new.self.cluster.cluster c.change-item.result (drop (c.loop-change.change-index + 1) c.args.changes.now) c.in-Ok.ensures.made)
            ∙ (ap (λ x. came_after d (after c.loop-change.side.cluster.cluster (x ∷ drop (c.loop-change.change-index + 1) c.args.changes.now))) c.change-item.is
            ∙ (sym (at_drop_more (λ xs. came_after d (after c.loop-change.side.cluster.cluster xs)) c.args.changes.now c.loop-change.change-index c.change-item.result (omega (arith, c.loop-change-test.true, c.loop-change.auto.change-index-end)))
            ∙ c.loop-change.invariant.leads.1)),
      );
      nodes = nodes_on _ _ _ c.loop-change.invariant.nodes c.in-Ok.ensures.nodes;
      touched = λ start same. c.in-Ok.ensures.touched start (c.loop-change.invariant.touched start same);
      counted = c.in-Ok.ensures.counted;
    }

pub returns-clause-leads : goal.returns-clause-leads
returns-clause-leads c =
    let d : Bool = c.loop-change.invariant.leads.0 in
    record {
      differs = d || false;
      made =
          sym c.loop-change.invariant.leads.1
          ∙ at_drop_all (λ xs. came_after d (after c.loop-change.side.cluster.cluster xs)) c.args.changes.now c.loop-change.change-index (omega (arith, c.loop-change-test.false));
    }

pub returns-clause-touched : goal.returns-clause-touched
returns-clause-touched c = c.loop-change.invariant.touched
