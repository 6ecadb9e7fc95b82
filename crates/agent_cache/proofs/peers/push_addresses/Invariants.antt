use Rattle.std.proofs.Common.{◌≡◌, ◌++◌, map, take}
use Rattle.cl_types.specs.Prefix.{block_of}
use Rattle.agent_cache.proofs.peers.push_addresses.Given as goal

abbrev pub invariant-loop-a : goal.invariant-loop-a
invariant-loop-a l =
    l.out.items ≡ l.initial.out.items ++ map block_of (take l.a-index l.addresses)
