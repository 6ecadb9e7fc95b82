use Rattle.std.proofs.Common.{ap, ◌∙◌}
use Rattle.std.specs.List.{list_any}
use Rattle.flow_pipeline.specs.Connections.{is_known}
use Rattle.flow_pipeline.specs.ConnectionIndex.{tuple_eq}
use Rattle.flow_pipeline.proofs.Tuples.{absent-unknown}
use Rattle.flow_pipeline.proofs.conns.Conns.add.Goals as goal

pub put-requires-clause-absent : goal.put-requires-clause-absent
put-requires-clause-absent c =
    ap (λ t. list_any (tuple_eq t) c.self.inside.index.keys) c.forth.ensures
    ∙ absent-unknown c.args.p.now c.self.inside.list.items c.self.inside.index.keys c.self.invariant.tuples_are (ap (λ k. is_known k c.args.p.now) c.self.view_is ∙ c.requires.unknown)
