use Rattle.std.proofs.Common.{◌∙◌}
use Rattle.touched_names.proofs.Groups.{all_by_parts}
use Rattle.touched_names.proofs.naming.is_all_pods.Goals as goal

pub returns : goal.returns
returns c = c.has_all_pods.ensures ∙ all_by_parts c.group_texts_differ.ensures c.args.g.now c.group_form.ensures
