use Rattle.std.proofs.Common.{◌||◌, sym, ap, ◌∙◌}
use Rattle.std.specs.List.{list_any}
use Rattle.flow_pipeline.specs.Connections.{is_known}
use Rattle.flow_pipeline.specs.ConnectionIndex.{back, tuple_eq}
use Rattle.flow_pipeline.proofs.Tuples.{known-tuples}
use Rattle.flow_pipeline.proofs.conns.Conns.known.Goals as goal

pub returns-then-contains : goal.returns-then-contains
returns-then-contains c =
    let keys = c.self.inside.index.keys in
    let p = c.args.p.now in
    let here = c.contains.ensures ∙ ap (λ t. list_any (tuple_eq t) keys) c.forth.ensures in
    c.if-contains.true
    ∙ ap (λ b. b || list_any (tuple_eq (back p)) keys) (sym c.if-contains.true ∙ here)
    ∙ known-tuples p c.self.inside.list.items keys c.self.invariant.tuples_are
    ∙ ap (λ k. is_known k p) c.self.view_is

pub returns-else-contains : goal.returns-else-contains
returns-else-contains c =
    let keys = c.self.inside.index.keys in
    let p = c.args.p.now in
    let here = c.contains.ensures ∙ ap (λ t. list_any (tuple_eq t) keys) c.forth.ensures in
    c.contains-else-contains.ensures
    ∙ ap (λ t. list_any (tuple_eq t) keys) c.back.ensures
    ∙ ap (λ b. b || list_any (tuple_eq (back p)) keys) (sym c.if-contains.false ∙ here)
    ∙ known-tuples p c.self.inside.list.items keys c.self.invariant.tuples_are
    ∙ ap (λ k. is_known k p) c.self.view_is
