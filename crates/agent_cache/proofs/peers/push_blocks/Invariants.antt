use Rattle.std.proofs.Common.{◌≡◌, ◌++◌, take}
use Rattle.agent_cache.proofs.peers.push_blocks.Given as goal

abbrev pub invariant-loop-block : goal.invariant-loop-block
invariant-loop-block l =
    l.out.items ≡ l.initial.out.items ++ take l.block-index l.blocks
