use Rattle.std.proofs.Common.{◌∙◌, ◌++◌, ◌∷◌, [], ap}
use Rattle.flow_tables.proofs.Classes.{adds_from}
use Rattle.flow_tables.proofs.index.add.Goals as goal

pub returns : goal.returns
returns c =
    adds_from c.args.class c.args.place c.args.classes.now c.take_places-places.new.classes c.insert.new.self c.push.new.self
    (c.in_ok-push.ensures.ok ∙ ap (λ ps. ps ++ (c.args.place ∷ [])) c.take_places-places.ensures.places)
    c.take_places-places.ensures.others c.in_ok-insert.ensures.updates
