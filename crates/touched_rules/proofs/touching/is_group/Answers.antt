use Rattle.label_select.specs.Written.{group_text}
use Rattle.touched_rules.proofs.SameTexts.{same_text}
use Rattle.touched_rules.proofs.touching.is_group.Goals as goal

pub returns : goal.returns
returns c =
    same_text group_text c.args.g.now c.args.other.now (c.group_texts_differ.ensures c.args.g.now c.args.other.now c.group_form.ensures c.group_form-2.ensures) c.same.result c.same.ensures
