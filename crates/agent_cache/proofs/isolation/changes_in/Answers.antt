use Rattle.std.proofs.Common.{List, ap, ◌∙◌}
use Rattle.cl_types.specs.Addr.{addr_order}
use Rattle.held_maps.specs.Held.{maps_of}
use Rattle.watch_streams.specs.declared.rule_changes.IsolationChange.{IsolationChange}
use Rattle.watch_streams.specs.contracts.rule_changes.IsolationChange as isolation
use Rattle.watch_streams.specs.KeyedChanges.{changes_of}
use Rattle.watch_streams.specs.RuleChanges.{isolation_ended, isolations}
use Rattle.agent_cache.proofs.isolation.changes_in.Goals as goal

pub returns : goal.returns
returns c =
    let between : List IsolationChange → List IsolationChange → List IsolationChange = changes_of isolation.the_row.coded (λ (x : IsolationChange). x.address) addr_order isolation_ended in
    c.in_ok-changes.ensures ∙ (ap (λ xs. between xs c.as_slice-2.result.now) (c.as_slice.ensures.value ∙ c.in_ok-old.ensures.value)
    ∙ ap (between (isolations c.args.dir (maps_of c.args.before.now))) (c.as_slice-2.ensures.value ∙ c.in_ok-new.ensures.value))
