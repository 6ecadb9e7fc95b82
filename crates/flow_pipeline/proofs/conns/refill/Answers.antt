use Rattle.std.proofs.Common.{◌≤◌, length, ap, sym, ◌∙◌, subst, map, arith}
use Rattle.std.proofs.lemmas.List.{take_all}
use Rattle.flow_pipeline.specs.ConnectionIndex.{tuple_of, AreApart}
use Rattle.flow_pipeline.proofs.Tuples.{absent-at}
use Rattle.flow_pipeline.proofs.conns.refill.Goals as goal

pub put-requires-clause-absent : goal.put-requires-clause-absent
put-requires-clause-absent c =
    absent-at c.tuple_of.result c.loop-c.index.keys c.args.list.now c.loop-c.c-index _ c.tuple_of.ensures c.loop-c.invariant.0 c.requires.apart (omega arith)

pub returns-clause-apart : goal.returns-clause-apart
returns-clause-apart c =
    let all : length c.args.list.now ≤ c.loop-c.c-index = omega arith in
    subst AreApart (sym (c.loop-c.invariant.0 ∙ ap (map tuple_of) (take_all c.loop-c.c-index c.args.list.now all))) c.requires.apart
