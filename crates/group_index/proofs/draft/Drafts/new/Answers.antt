use Rattle.group_index.proofs.Settling.{drafts_none}
use Rattle.group_index.proofs.draft.Drafts.new.Goals as goal

pub returns : goal.returns
returns c = λ cluster. drafts_none cluster _ c.new-2.ensures.items c.new.ensures.items
