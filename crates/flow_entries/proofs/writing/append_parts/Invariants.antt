use Rattle.std.proofs.Common.{◌≡◌, ◌++◌, false, map, drop}
use Rattle.cl_types.specs.Written.{Begins}
use Rattle.flow_entries.specs.Listing.{continued}
use Rattle.flow_entries.proofs.writing.append_parts.Given as goal

-- what is written, with what is left, is the whole
abbrev pub invariant-loop-part : goal.invariant-loop-part
invariant-loop-part g l = record {
  whole : l.out ++ continued l.begun (map g.T.Written.text (drop l.part-index l.parts)) ≡ l.fn.out ++ continued false (map g.T.Written.text l.parts);
  begins : Begins l.fn.out l.out;
}
