use Rattle.std.proofs.Common.{◌≡◌, ◌≢◌, [], Option, Some, option_map, sym, ap, ◌∙◌}
use Rattle.cl_types.specs.Ascending.{found}
use Rattle.cl_types.specs.AscendingLaws.{found_holds, passed}
use Rattle.cluster_types.specs.Policy.{PolicyData}
use Rattle.touched_names.specs.Standing.{at_policy, policy_object}
use Rattle.watch_streams.specs.Net.{IsNetPolicy}
use Rattle.watch_streams.specs.Projection.{net_policy}
use Rattle.node_objects.specs.Indexed.{is_policy_on}
use Rattle.node_objects.proofs.named.policy_under.Goals as goal

pub policy_if_on-requires : goal.policy_if_on-requires
policy_if_on-requires c =
    let is : found (at_policy c.args.key.now) c.args.c.now.cluster.policies ≡ Some c.in-Some.policy.now = ap (found (at_policy c.args.key.now)) (sym c.policies.ensures) ∙ sym c.in-Some.ensures in
    found_holds (at_policy c.args.key.now) (λ (p : PolicyData). p.applied ≢ [] → IsNetPolicy (net_policy p)) c.args.c.now.cluster.policies c.in-Some.policy.now
    (c.policies_on_streams_are_whole.ensures.applied c.args.c.now.cluster c.keeps_its_form.ensures.cluster) is

pub returns : goal.returns
returns c =
    let is : found (at_policy c.args.key.now) c.args.c.now.cluster.policies ≡ Some c.in-Some.policy.now = ap (found (at_policy c.args.key.now)) (sym c.policies.ensures) ∙ sym c.in-Some.ensures in
    c.in_ok-object.ensures ∙ ap (λ (o : Option PolicyData). option_map policy_object (passed (is_policy_on c.args.groups.now c.args.node.now) o)) (sym is)
