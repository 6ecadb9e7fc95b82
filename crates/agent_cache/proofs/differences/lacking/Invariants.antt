use Rattle.std.proofs.Common.{◌≡◌, take}
use Rattle.watch_streams.specs.KeyedChanges.{lacking}
use Rattle.agent_cache.proofs.differences.lacking.Given as goal

abbrev pub invariant-loop-item : goal.invariant-loop-item
invariant-loop-item g l =
    l.out.items ≡ lacking g.T.Keyed.key g.T.Key.Ord.cmp (take l.item-index l.items) l.others
