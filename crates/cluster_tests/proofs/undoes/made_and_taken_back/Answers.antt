use Rattle.std.proofs.Common.{◌≡◌, sym, subst, ◌∙◌}
use Rattle.cluster_types.specs.Cluster.{ClusterData, IsCluster, HasPlaces}
use Rattle.cluster_tests.proofs.Undone.{back, has_places}
use Rattle.cluster_tests.proofs.undoes.made_and_taken_back.Goals as goal

pub undo-requires-clause-cluster : goal.undo-requires-clause-cluster
undo-requires-clause-cluster g c =
    subst IsCluster (sym (back _ _ c.args.change _ c.expect-kept.result c.undoes_take_back.ensures.one c.keeps_its_form.ensures.cluster c.expect-kept.ensures c.apply_kept.ensures.follows c.apply_kept.ensures.undo)) c.keeps_its_form.ensures.cluster

pub undo-requires-clause-places : goal.undo-requires-clause-places
undo-requires-clause-places g c =
    subst (λ (d : ClusterData). HasPlaces d c.apply_kept.new.self.places) (sym (back _ _ c.args.change _ c.expect-kept.result c.undoes_take_back.ensures.one c.keeps_its_form.ensures.cluster c.expect-kept.ensures c.apply_kept.ensures.follows c.apply_kept.ensures.undo))
    (has_places _ _ _ c.keeps_its_form.ensures.places c.apply_kept.ensures.places)

pub returns : goal.returns
returns g c =
    c.undo.ensures.cluster ∙ back _ _ c.args.change _ c.expect-kept.result c.undoes_take_back.ensures.one c.keeps_its_form.ensures.cluster c.expect-kept.ensures c.apply_kept.ensures.follows c.apply_kept.ensures.undo
