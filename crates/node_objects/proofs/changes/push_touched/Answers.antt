use Rattle.std.proofs.Common.{◌++◌, ap₂, ◌∙◌}
use Rattle.watch_streams.specs.Difference.{changed}
use Rattle.node_objects.proofs.UnderNames.{under_is}
use Rattle.node_objects.proofs.changes.push_touched.Goals as goal

pub returns : goal.returns
returns c =
    c.in_ok-push_under.ensures
    ∙ ap₂ (λ before after. c.args.changes.now.items ++ changed before after)
    (under_is c.group_texts_differ.ensures c.args.c.now.cluster c.keeps_its_form.ensures.cluster c.args.old.now c.requires.old c.args.node.now c.args.s c.args.touched.now.name c.name_form.ensures)
    (under_is c.group_texts_differ.ensures c.args.d.now.cluster c.keeps_its_form-2.ensures.cluster c.args.new.now c.requires.new c.args.node.now c.args.s c.args.touched.now.name c.name_form.ensures)
