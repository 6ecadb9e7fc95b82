use Rattle.std.proofs.Common.{◌≡◌, map, true, ap, ◌∙◌}
use Rattle.std.specs.List.{flat_map}
use Rattle.cl_types.specs.declared.addr.Addr.{Addr}
use Rattle.cl_types.specs.Addr.{addr_order, addr_order_total}
use Rattle.cl_types.specs.Ascending.{sorted_set}
use Rattle.cl_types.specs.AscendingLaws.{ascends_sorted}
use Rattle.held_maps.specs.Held.{maps_of}
use Rattle.watch_streams.specs.declared.rule_changes.IsolationChange.{IsolationChange}
use Rattle.watch_streams.specs.HeldEvaluation.{held_policies}
use Rattle.watch_streams.specs.InForce.{isolating_groups, member_address, members_in}
use Rattle.agent_cache.proofs.Lists.{ascends_made}
use Rattle.agent_cache.proofs.isolation.isolations.Goals as goal

pub returns-clause-ascend : goal.returns-clause-ascend
returns-clause-ascend c =
    let h = maps_of c.args.held.now in
    let dir = c.args.dir in
    let f : Addr → IsolationChange = λ a. record { dir = dir; address = a; now = true } in
    let addresses = map member_address (members_in h.applied (flat_map (isolating_groups dir) (held_policies h))) in
    let are : c.in_ok-changes.changes.items ≡ map f (sorted_set addr_order addresses) = c.in_ok-changes.ensures ∙ ap (map f) (c.as_slice.ensures ∙ c.in_ok-addresses.ensures) in
    ascends_made f (λ (x : IsolationChange). x.address) addresses c.in_ok-changes.changes.items are (ascends_sorted (λ a. a) addr_order_total addresses)

pub returns-clause-value : goal.returns-clause-value
returns-clause-value c =
    let f : Addr → IsolationChange = λ a. record { dir = c.args.dir; address = a; now = true } in
    c.in_ok-changes.ensures ∙ ap (map f) (c.as_slice.ensures ∙ c.in_ok-addresses.ensures)
