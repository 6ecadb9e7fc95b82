use Rattle.std.proofs.Common.{◌≡◌, true, ap, subst, sym, ◌∙◌}
use Rattle.cl_types.specs.Ascending.{IsGap, IsPlace}
use Rattle.cl_types.specs.Text.{text_order}
use Rattle.cluster_types.specs.Cluster.{ClusterData}
use Rattle.suite_run.specs.Doing.{NameAt, is_listed, node_names}
use Rattle.suite_run.specs.RunState.{RunData}
use Rattle.suite_run.proofs.Placing.{listed_node, no_gap, node_name, place_of_node}
use Rattle.suite_run.proofs.run.Run.place.Goals as goal

pub returns-in-Ok : goal.returns-in-Ok
returns-in-Ok c =
    let known = c.self.inside.controller in
    let nodes : c.nodes.result.now ≡ known.cluster.nodes = c.nodes.ensures ∙ ap (λ (c : ClusterData). c.nodes) c.cluster.ensures in
    subst (λ (r : RunData). NameAt (node_names r.sites) c.in-Ok.i c.args.node.now) c.self.view_is
    (place_of_node known c.self.inside.agents.items c.keeps_its_form.ensures c.self.invariant.agents c.args.node.now c.in-Ok.i
    (subst (λ nodes. IsPlace (λ n. text_order (node_name n) c.args.node.now) nodes c.in-Ok.i) nodes c.in-Ok.ensures.found))

pub returns-in-Err : goal.returns-in-Err
returns-in-Err c =
    let known = c.self.inside.controller in
    let nodes : c.nodes.result.now ≡ known.cluster.nodes = c.nodes.ensures ∙ ap (λ (c : ClusterData). c.nodes) c.cluster.ensures in
    absurd (no_gap node_name c.args.node.now known.cluster.nodes c.in-Err.i
    (subst (λ nodes. IsGap (λ n. text_order (node_name n) c.args.node.now) nodes c.in-Err.i) nodes c.in-Err.ensures.absent)
    (listed_node known c.self.inside.agents.items c.keeps_its_form.ensures c.self.invariant.agents c.args.node.now
    (subst (λ (r : RunData). is_listed c.args.node.now r.sites ≡ true) (sym c.self.view_is) c.requires)))
