use Rattle.std.proofs.Common.{◌≡◌, None, sym, ap, ◌∙◌}
use Rattle.cl_types.specs.Ascending.{found}
use Rattle.group_index.specs.Changes.{at_pod}
use Rattle.group_index.proofs.Standing.{new_pod_put, none_found}
use Rattle.group_index.proofs.index.tests.put_new.Goals as goal

pub returns : goal.returns
returns g c =
    let absent : found (at_pod c.args.pod.key) c.args.c.now.cluster.pods ≡ None =
    none_found c.find.result _
    (c.find.ensures ∙ (ap (found (at_pod c.pod.inside.key)) c.pods.ensures ∙ ap (λ p. found (at_pod p.key) c.args.c.now.cluster.pods) c.pod.view_is))
    (sym c.is_some.ensures ∙ c.if-is_some.false) in
    new_pod_put c.index_stands_before.ensures.pod_put c.args.c.now.cluster c.try_apply.new.self.cluster c.args.pod c.try_apply.result c.keeps_its_form.ensures.cluster absent
    (sym c.is_err.ensures.value ∙ c.if-is_err.false) c.try_apply.ensures.follows
