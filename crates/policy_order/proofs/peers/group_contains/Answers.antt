use Rattle.std.proofs.Common.{Bool, sym, ap, ◌∙◌, false, option_copied}
use Rattle.std.specs.Option.{option_map_or}
use Rattle.cluster_types.specs.Groups.{in_group}
use Rattle.cluster_types.specs.Pod.{PodData}
use Rattle.policy_order.proofs.Counting.{in_group_counts}
use Rattle.policy_order.proofs.peers.group_contains.Goals as goal

pub returns-in-Some : goal.returns-in-Some
returns-in-Some c =
    let test : PodData → Bool = in_group c.args.asked.now.cluster.now.cluster c.args.group.now in
    c.in_group.ensures ∙ sym (c.args.asked.now.stands test (in_group_counts c.args.asked.now.cluster.now.cluster c.args.group.now) ∙ ap (λ o. option_map_or test (option_copied o) false) c.in-Some.is)

pub returns-in-None : goal.returns-in-None
returns-in-None c =
    let test : PodData → Bool = in_group c.args.asked.now.cluster.now.cluster c.args.group.now in
    sym (c.args.asked.now.stands test (in_group_counts c.args.asked.now.cluster.now.cluster c.args.group.now) ∙ ap (λ o. option_map_or test (option_copied o) false) c.in-None.is)
