use Rattle.touched_names.proofs.Under.{names_stand_alone}
use Rattle.touched_names.proofs.laws.names_stand_alone.Goals as goal

pub returns : goal.returns
returns c = names_stand_alone c.group_texts_differ.ensures c.texts_tell_names_apart.ensures.policies
