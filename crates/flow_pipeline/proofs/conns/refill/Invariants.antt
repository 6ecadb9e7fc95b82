use Rattle.std.proofs.Common.{◌≡◌, ◌+◌, ◌≤◌, take, map}
use Rattle.indexmap.specs.IndexSet.{index_set_len, spare}
use Rattle.flow_pipeline.specs.ConnectionIndex.{tuple_of}
use Rattle.flow_pipeline.proofs.conns.refill.Given as goal

-- the tuples so far are there, and what was free is free but for them
abbrev pub invariant-loop-c : goal.invariant-loop-c
invariant-loop-c l =
    (l.index.keys ≡ map tuple_of (take l.c-index l.list))
    × (index_set_len l.fn.index + spare l.fn.index ≤ l.c-index + spare l.index)
