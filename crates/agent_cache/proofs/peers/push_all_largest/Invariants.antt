use Rattle.std.proofs.Common.{◌≡◌, ◌++◌, List, take}
use Rattle.cl_types.specs.Prefix.{PrefixData}
use Rattle.watch_streams.specs.InForce.{AreBlocksOf}
use Rattle.agent_cache.proofs.peers.push_all_largest.Given as goal

abbrev pub invariant-loop-block : goal.invariant-loop-block
invariant-loop-block l =
    (own : List PrefixData) × AreBlocksOf (take l.block-index l.blocks) own × (l.out.items ≡ l.initial.out.items ++ own)
