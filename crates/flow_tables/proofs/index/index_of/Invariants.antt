use Rattle.flow_tables.specs.Index.{CoversTo}
use Rattle.flow_tables.proofs.index.index_of.Given as goal

-- the flows before i are covered
abbrev pub invariant-loop-i : goal.invariant-loop-i
invariant-loop-i l = CoversTo l.classes l.shapes l.in_order l.flows l.i
