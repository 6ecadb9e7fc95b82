use Rattle.std.proofs.Common.{◌≡◌, take}
use Rattle.agent_cache.proofs.peers.prefixes.Given as goal

abbrev pub invariant-loop-b : goal.invariant-loop-b
invariant-loop-b l =
    l.prefixes.items ≡ take l.b-index l.blocks
