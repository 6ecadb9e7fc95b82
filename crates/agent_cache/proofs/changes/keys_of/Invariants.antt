use Rattle.std.proofs.Common.{◌≡◌, map, take}
use Rattle.watch_streams.specs.RuleChanges.{parts_key}
use Rattle.agent_cache.proofs.changes.keys_of.Given as goal

abbrev pub invariant-loop-p : goal.invariant-loop-p
invariant-loop-p l =
    l.keys.items ≡ map parts_key (take l.p-index l.parts)
