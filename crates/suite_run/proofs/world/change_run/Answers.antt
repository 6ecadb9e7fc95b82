use Rattle.std.proofs.Common.{◌∙◌, ap, subst}
use Rattle.cluster_types.specs.Cluster.{IsCluster}
use Rattle.suite_run.specs.RunState.{RunData}
use Rattle.suite_run.proofs.Worlds.{IsStep-as, run-step}
use Rattle.suite_run.proofs.world.change_run.Goals as goal

pub returns : goal.returns
returns c = λ w st.
    let whole : IsCluster c.args.run.cluster = subst IsCluster (c.cluster.ensures ∙ ap (λ (r : RunData). r.cluster) c.run.view_is) c.keeps_its_form.ensures.cluster in
    IsStep-as _ _ _ _ _ c.of.ensures.world c.of.ensures.told
    (run-step c.args.changes c.in_ok-run.field-0.answer c.args.run _ c.args.ring c.in_ok-outcome.outcome w whole c.requires.ring c.in_ok-run.ensures c.in_ok-outcome.ensures st)
