use Rattle.std.proofs.Common.{◌∙◌, ◌++◌, ◌∷◌, [], ap}
use Rattle.flow_tables.proofs.Classes.{notes_from}
use Rattle.flow_tables.proofs.index.add_shape.Goals as goal

pub returns : goal.returns
returns c =
    notes_from c.args.scope c.args.shape c.args.shapes.now c.take_shapes-noted.new.shapes c.insert.new.self c.push.new.self
    (c.in_ok-push.ensures.items ∙ ap (λ ss. ss ++ (c.args.shape ∷ [])) c.take_shapes-noted.ensures.noted)
    c.take_shapes-noted.ensures.others c.in_ok-insert.ensures.updates
