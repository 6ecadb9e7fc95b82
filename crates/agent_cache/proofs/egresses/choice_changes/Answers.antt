use Rattle.std.proofs.Common.{List, ap, ◌∙◌}
use Rattle.cl_types.specs.Addr.{addr_order}
use Rattle.held_maps.specs.Held.{maps_of}
use Rattle.watch_streams.specs.declared.rule_changes.ChoiceChange.{ChoiceChange}
use Rattle.watch_streams.specs.contracts.rule_changes.ChoiceChange as choice
use Rattle.watch_streams.specs.KeyedChanges.{changes_of}
use Rattle.watch_streams.specs.RuleChanges.{choice_ended, choices}
use Rattle.agent_cache.proofs.egresses.choice_changes.Goals as goal

pub returns : goal.returns
returns c =
    let between : List ChoiceChange → List ChoiceChange → List ChoiceChange = changes_of choice.the_row.coded (λ (x : ChoiceChange). x.pod) addr_order choice_ended in
    c.of.ensures ∙ (c.in_ok-changes_of.ensures ∙ (ap (λ xs. between xs c.as_slice-2.result.now) (c.as_slice.ensures.value ∙ c.in_ok-old.ensures.value)
    ∙ ap (between (choices c.args.node.now (maps_of c.args.before.now))) (c.as_slice-2.ensures.value ∙ c.in_ok-new.ensures.value)))
