use Rattle.std.proofs.Common.{arith}
use Rattle.group_index.specs.declared.change.GroupChange.{GroupChange}
use Rattle.group_index.specs.Index.{entry_of, members_in}
use Rattle.ctl_core.specs.Spread.{has_spread}
use Rattle.ctl_core.proofs.Spreading.{kept_more}
use Rattle.ctl_core.proofs.spread.spread_groups.Goals as goal

pub loop-change-preserved : goal.loop-change-preserved
loop-change-preserved c =
    kept_more (λ (x : GroupChange). x.group) (λ (x : GroupChange). has_spread (members_in (entry_of c.args.index.now x.group)) x) c.args.changes.now c.loop-change.change-index c.change-item.result c.loop-change.groups.items c.push_if_spread.new.groups.items
    (omega (arith, c.loop-change-test.true, c.loop-change.auto.change-index-end)) c.change-item.is c.loop-change.invariant c.in_ok-push_if_spread.ensures
