use Rattle.std.proofs.Common.{ap, ◌∙◌, set}
use Rattle.flow_pipeline.specs.declared.conns.Conn.{Conn}
use Rattle.flow_pipeline.proofs.Tuples.{seen-found, seen-missing}
use Rattle.flow_pipeline.proofs.conns.see.Goals as goal

pub returns-in-Some-clause-items : goal.returns-in-Some-clause-items
returns-in-Some-clause-items c =
    let list = c.args.list.now.items in
    ap (λ (item : Conn). set list c.in-Some.i (record item { last = c.args.now })) c.index-c.ensures
    ∙ seen-found c.args.t c.args.now c.in-Some.i c.index-c.result.now list c.args.index.now.keys c.requires.tuples c.requires.apart c.in-Some.ensures.index

pub returns-in_default-clause-items : goal.returns-in_default-clause-items
returns-in_default-clause-items c =
    seen-missing c.args.t c.args.now c.args.list.now.items c.args.index.now.keys c.requires.tuples c.in_default.ensures.index
