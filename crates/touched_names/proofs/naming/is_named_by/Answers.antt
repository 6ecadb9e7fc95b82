use Rattle.std.proofs.Common.{List, Option, ap, sym, ◌∙◌}
use Rattle.std.specs.List.{list_any}
use Rattle.cluster_types.specs.declared.policy.Peer.{Peer}
use Rattle.touched_names.specs.Standing.{has_group, is_group}
use Rattle.touched_names.proofs.Groups.{any_flat_map}
use Rattle.touched_names.proofs.naming.is_named_by.Goals as goal
use Rattle.watch_streams.specs.Projection.{peer_groups, rule_groups}

pub returns-in-Some : goal.returns-in-Some
returns-in-Some c =
    let g = c.args.g.now in
    c.has_peer.ensures
    ∙ (ap (list_any (λ (p : Peer). has_group (peer_groups p) g)) c.as_slice.ensures
    ∙ (sym (any_flat_map (is_group g) peer_groups c.in-Some.peers) ∙ ap (λ (ps : Option (List Peer)). has_group (rule_groups c.args.rule.now ps) g) (sym c.in-Some.is)))
