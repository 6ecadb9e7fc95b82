use Rattle.touched_names.proofs.Groups.{same_group}
use Rattle.touched_names.proofs.naming.is_group.Goals as goal

pub returns : goal.returns
returns c =
    same_group c.group_texts_differ.ensures c.args.g.now c.args.other.now c.group_form.ensures c.group_form-2.ensures c.same.result c.same.ensures
