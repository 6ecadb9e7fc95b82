use Rattle.std.proofs.Common.{◌+◌, ◌∷◌, drop, sym, ap, ◌∙◌, arith}
use Rattle.std.proofs.lemmas.List.{at_drop_more}
use Rattle.std.proofs.lemmas.Result.{err_from_is_err_and}
use Rattle.cluster_objects.specs.Changes.{after}
use Rattle.ctl_core.proofs.Coming.{came_after, nodes_on, one_made, one_refused, refused_comes, same_on}
use Rattle.ctl_core.proofs.trying.try_all.Goals as goal

pub returns-in_err-more-clause-made : goal.returns-in_err-more-clause-made
returns-in_err-more-clause-made c =
    let e = err_from_is_err_and c.from_residual.result c.from_residual.ensures.1 in
    rw e.1
    (refused_comes _ _ c.try_one.new.cluster.cluster c.try_one.new.cluster.cluster e.0 (rw e.2 c.in_err-more.ensures.made)
    (λ refused. sym c.loop-change.invariant.came
    ∙ (at_drop_more (λ xs. came_after c.loop-change.differs (after c.loop-change.cluster.cluster xs)) c.args.changes.now c.loop-change.change-index c.change-item.result (omega (arith, c.loop-change-test.true, c.loop-change.auto.change-index-end))
    ∙ (ap (λ x. came_after c.loop-change.differs (after c.loop-change.cluster.cluster (x ∷ drop (c.loop-change.change-index + 1) c.args.changes.now))) (sym c.change-item.is)
    ∙ one_refused c.loop-change.differs c.loop-change.cluster.cluster c.change-item.result (drop (c.loop-change.change-index + 1) c.args.changes.now) _ refused))))

pub loop-change-preserved : goal.loop-change-preserved
loop-change-preserved c = record {
  came =
      sym (one_made c.loop-change.differs c.in_ok-more.more c.loop-change.cluster.cluster c.try_one.new.cluster.cluster c.change-item.result (drop (c.loop-change.change-index + 1) c.args.changes.now) c.in_ok-more.ensures.made)
      ∙ (ap (λ x. came_after c.loop-change.differs (after c.loop-change.cluster.cluster (x ∷ drop (c.loop-change.change-index + 1) c.args.changes.now))) c.change-item.is
      ∙ (sym (at_drop_more (λ xs. came_after c.loop-change.differs (after c.loop-change.cluster.cluster xs)) c.args.changes.now c.loop-change.change-index c.change-item.result (omega (arith, c.loop-change-test.true, c.loop-change.auto.change-index-end)))
      ∙ c.loop-change.invariant.came));
  nodes = nodes_on _ _ _ c.loop-change.invariant.nodes c.in_ok-more.ensures.nodes;
  same = same_on c.loop-change.differs c.in_ok-more.more _ _ _ c.loop-change.invariant.same c.in_ok-more.ensures.same;
  can = c.in_ok-more.ensures.back;
  leads = c.in_ok-more.ensures.leads ∙ c.loop-change.invariant.leads;
  len = omega (arith, c.in_ok-more.ensures.len, c.loop-change.invariant.len);
  capacity = omega (arith, c.in_ok-more.ensures.capacity, c.loop-change.invariant.capacity);
}
