use Rattle.std.proofs.Common.{◌≡◌, ◌<◌, get_or, length, ap, subst, sym, ◌∙◌, arith}
use Rattle.cluster_types.specs.Cluster.{ClusterData}
use Rattle.cluster_types.specs.Node.{NodeData}
use Rattle.suite_run.specs.Doing.{NameAt, node_names}
use Rattle.suite_run.specs.RunState.{RunData}
use Rattle.suite_run.proofs.Placing.{if_named, name_of_node, node_within}
use Rattle.suite_run.proofs.run.Run.name.Goals as goal

pub offset_bounds-nodes-i : goal.offset_bounds-nodes-i
offset_bounds-nodes-i c =
    let nodes : c.nodes.result.now ≡ c.self.inside.controller.cluster.nodes = c.nodes.ensures ∙ ap (λ (c : ClusterData). c.nodes) c.cluster.ensures in
    let within = node_within c.self.inside.controller c.self.inside.agents.items c.keeps_its_form.ensures c.self.invariant.agents c.args.i
    (subst (λ (r : RunData). c.args.i < length r.sites) (sym c.self.view_is) c.requires) in
    omega (arith, within, ap length nodes, c.nodes.type_inv)

pub bounds-nodes-i : goal.bounds-nodes-i
bounds-nodes-i c =
    let nodes : c.nodes.result.now ≡ c.self.inside.controller.cluster.nodes = c.nodes.ensures ∙ ap (λ (c : ClusterData). c.nodes) c.cluster.ensures in
    let within = node_within c.self.inside.controller c.self.inside.agents.items c.keeps_its_form.ensures c.self.invariant.agents c.args.i
    (subst (λ (r : RunData). c.args.i < length r.sites) (sym c.self.view_is) c.requires) in
    omega (arith, within, ap length nodes)

pub returns : goal.returns
returns c =
    let nodes : c.nodes.result.now ≡ c.self.inside.controller.cluster.nodes = c.nodes.ensures ∙ ap (λ (c : ClusterData). c.nodes) c.cluster.ensures in
    let here : c.index-nodes-i.result ≡ get_or c.self.inside.controller.cluster.nodes c.args.i c.index-nodes-i.result =
    c.index-nodes-i.is ∙ ap (λ ns. get_or ns c.args.i c.index-nodes-i.result) nodes in
    let named = name_of_node c.self.inside.controller c.self.inside.agents.items c.keeps_its_form.ensures c.self.invariant.agents c.args.i c.index-nodes-i.result
    (subst (λ (r : RunData). c.args.i < length r.sites) (sym c.self.view_is) c.requires) here in
    if_named c.copy.result (NameAt (node_names c.args.self.now.sites) c.args.i) c.node.inside.name c.copy.ensures
    (subst (NameAt (node_names c.args.self.now.sites) c.args.i) (sym (ap (λ (n : NodeData). n.name) c.node.view_is))
    (subst (λ (r : RunData). NameAt (node_names r.sites) c.args.i c.index-nodes-i.result.name) c.self.view_is named))
