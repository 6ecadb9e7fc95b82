use Rattle.std.proofs.Common.{List, ap, ◌∙◌}
use Rattle.cl_types.specs.Addr.{addr_order}
use Rattle.held_maps.specs.Held.{maps_of}
use Rattle.watch_streams.specs.declared.rule_changes.MarkChange.{MarkChange}
use Rattle.watch_streams.specs.contracts.rule_changes.MarkChange as mark
use Rattle.watch_streams.specs.KeyedChanges.{changes_of}
use Rattle.watch_streams.specs.RuleChanges.{mark_ended, marks}
use Rattle.agent_cache.proofs.egresses.mark_changes.Goals as goal

pub returns : goal.returns
returns c =
    let between : List MarkChange → List MarkChange → List MarkChange = changes_of mark.the_row.coded (λ (x : MarkChange). x.address) addr_order mark_ended in
    c.of.ensures ∙ (c.in_ok-changes_of.ensures ∙ (ap (λ xs. between xs c.as_slice-2.result.now) (c.as_slice.ensures.value ∙ c.in_ok-old.ensures.value)
    ∙ ap (between (marks c.args.node.now (maps_of c.args.before.now))) (c.as_slice-2.ensures.value ∙ c.in_ok-new.ensures.value)))
