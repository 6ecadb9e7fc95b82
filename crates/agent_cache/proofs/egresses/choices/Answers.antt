use Rattle.std.proofs.Common.{◌≡◌, map, ap, ◌∙◌}
use Rattle.cl_types.specs.declared.addr.Addr.{Addr}
use Rattle.cl_types.specs.Addr.{addr_order, addr_order_total}
use Rattle.cl_types.specs.Ascending.{sorted_set}
use Rattle.cl_types.specs.AscendingLaws.{ascends_sorted}
use Rattle.held_maps.specs.Held.{maps_of}
use Rattle.watch_streams.specs.declared.rule_changes.ChoiceChange.{ChoiceChange}
use Rattle.watch_streams.specs.HeldEvaluation.{held_egresses}
use Rattle.watch_streams.specs.InForce.{egress_group, held_choice, member_address, members_in}
use Rattle.agent_cache.proofs.Lists.{ascends_made}
use Rattle.agent_cache.proofs.egresses.choices.Goals as goal

pub returns-clause-ascend : goal.returns-clause-ascend
returns-clause-ascend c =
    let h = maps_of c.args.held.now in
    let f : Addr → ChoiceChange = λ a. record { pod = a; now = held_choice c.args.node.now h a } in
    let addresses = map member_address (members_in h.applied (map egress_group (held_egresses h))) in
    let are : c.in_ok-choices.choices.items ≡ map f (sorted_set addr_order addresses) = c.in_ok-choices.ensures ∙ ap (map f) (c.as_slice.ensures ∙ c.in_ok-pods.ensures) in
    ascends_made f (λ (x : ChoiceChange). x.pod) addresses c.in_ok-choices.choices.items are (ascends_sorted (λ a. a) addr_order_total addresses)

pub returns-clause-value : goal.returns-clause-value
returns-clause-value c =
    let f : Addr → ChoiceChange = λ a. record { pod = a; now = held_choice c.args.node.now (maps_of c.args.held.now) a } in
    c.in_ok-choices.ensures ∙ ap (map f) (c.as_slice.ensures ∙ c.in_ok-pods.ensures)
