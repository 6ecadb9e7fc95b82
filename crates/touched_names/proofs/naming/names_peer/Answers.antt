use Rattle.std.proofs.Common.{ap, sym, ◌∙◌}
use Rattle.std.specs.List.{list_any}
use Rattle.cluster_types.specs.declared.policy.Rule.{Rule}
use Rattle.cluster_types.specs.Policy.{PolicyData}
use Rattle.touched_names.specs.Standing.{has_group, is_group}
use Rattle.touched_names.proofs.Groups.{any_flat_map}
use Rattle.touched_names.proofs.naming.names_peer.Goals as goal
use Rattle.watch_streams.specs.Projection.{rule_groups}

pub returns : goal.returns
returns c =
    let g = c.args.g.now in
    c.is_named_by_any.ensures
    ∙ (ap (list_any (λ (r : Rule). has_group (rule_groups r r.peers) g)) (c.as_slice.ensures ∙ ap (λ (p : PolicyData). p.rules) c.policy.view_is)
    ∙ sym (any_flat_map (is_group g) (λ (r : Rule). rule_groups r r.peers) c.args.policy.now.rules))
