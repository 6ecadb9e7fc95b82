use Rattle.std.proofs.Common.{◌≡◌, Option, Some, option_map, sym, ap, ◌∙◌}
use Rattle.cl_types.specs.Ascending.{found}
use Rattle.cl_types.specs.AscendingLaws.{passed}
use Rattle.cluster_types.specs.Egress.{EgressData}
use Rattle.touched_names.specs.Standing.{at_egress, egress_object}
use Rattle.node_objects.specs.Indexed.{is_egress_on}
use Rattle.node_objects.proofs.named.egress_under.Goals as goal

pub returns : goal.returns
returns c =
    let is : found (at_egress c.args.name.now) c.args.c.now.cluster.egresses ≡ Some c.in-Some.egress.now = ap (found (at_egress c.args.name.now)) (sym c.egresses.ensures) ∙ sym c.in-Some.ensures in
    c.in_ok-object.ensures ∙ ap (λ (o : Option EgressData). option_map egress_object (passed (is_egress_on c.args.c.now.cluster c.args.groups.now c.args.node.now) o)) (sym is)
