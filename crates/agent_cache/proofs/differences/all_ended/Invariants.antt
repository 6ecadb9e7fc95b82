use Rattle.std.proofs.Common.{◌≡◌, map}
use Rattle.agent_cache.proofs.differences.all_ended.Given as goal

abbrev pub invariant-loop-change : goal.invariant-loop-change
invariant-loop-change g l =
    l.out.items ≡ map g.T.Change.ended l.yielded
