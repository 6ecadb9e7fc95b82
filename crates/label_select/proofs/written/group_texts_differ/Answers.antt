use Rattle.label_select.proofs.GroupTexts.{group_same}
use Rattle.label_select.proofs.written.group_texts_differ.Goals as goal

pub returns : goal.returns
returns c = group_same
