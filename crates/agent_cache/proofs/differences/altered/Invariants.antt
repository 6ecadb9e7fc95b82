use Rattle.std.proofs.Common.{◌≡◌, take, filter}
use Rattle.watch_streams.specs.KeyedChanges.{beside, is_other}
use Rattle.agent_cache.proofs.differences.altered.Given as goal

abbrev pub invariant-loop-item : goal.invariant-loop-item
invariant-loop-item g l =
    l.out.items ≡ filter (λ x. is_other g.row.T.coded (beside g.T.Keyed.key g.T.Key.Ord.cmp l.old x) x) (take l.item-index l.new)
