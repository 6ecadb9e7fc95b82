use Rattle.std.proofs.Common.{ap, ◌∙◌}
use Rattle.held_maps.specs.Held.{maps_of}
use Rattle.agent_cache.proofs.Missing.{least_in_turn}
use Rattle.agent_cache.proofs.standing.missing_group.Goals as goal

pub returns : goal.returns
returns c =
    let h = maps_of c.args.held.now in
    least_in_turn h c.args.policy.now c.args.rule.now _ _ _ _ _ _ _ (c.resolving_stream-s.ensures h) c.named_groups-named.ensures (c.as_slice-pods.ensures ∙ ap (λ p. p.applied) c.policy.view_is) c.peer_groups-peers.ensures
    c.in_ok-for_ports.ensures c.in_ok-for_pods.ensures c.in_ok-least.ensures
