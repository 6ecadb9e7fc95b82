use Rattle.std.proofs.Common.{◌≡◌, map, true, ap, ◌∙◌}
use Rattle.cl_types.specs.declared.addr.Addr.{Addr}
use Rattle.cl_types.specs.Addr.{addr_order, addr_order_total}
use Rattle.cl_types.specs.Ascending.{sorted_set}
use Rattle.cl_types.specs.AscendingLaws.{ascends_sorted}
use Rattle.watch_streams.specs.declared.rule_changes.MarkChange.{MarkChange}
use Rattle.agent_cache.proofs.Lists.{ascends_made}
use Rattle.agent_cache.proofs.egresses.marks.Goals as goal

pub returns-clause-ascend : goal.returns-clause-ascend
returns-clause-ascend c =
    let f : Addr → MarkChange = λ a. record { address = a; now = true } in
    let own = c.in_ok-own.own.items in
    let are : c.in_ok-marks.marks.items ≡ map f (sorted_set addr_order own) = c.in_ok-marks.ensures ∙ ap (map f) (c.as_slice-2.ensures ∙ c.in_ok-addresses.ensures) in
    ascends_made f (λ (x : MarkChange). x.address) own c.in_ok-marks.marks.items are (ascends_sorted (λ a. a) addr_order_total own)
