use Rattle.flow_tables.specs.Index.{IsListedTo, Lists, Has}
use Rattle.flow_tables.proofs.index.enter_dimensions.Given as goal

-- the dimensions below k are listed
abbrev pub invariant-loop-k : goal.invariant-loop-k
invariant-loop-k l = record {
  at : IsListedTo l.classes l.shapes l.place l.flow l.k;
  lists : Lists l.fn.classes l.classes;
  has : Has l.fn.shapes l.shapes;
}
