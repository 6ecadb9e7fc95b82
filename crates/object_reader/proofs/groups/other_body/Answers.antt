use Rattle.object_reader.specs.Groups.{other_body}
use Rattle.object_reader.proofs.groups.other_body.Goals as goal

pub returns : goal.returns
unfolding other_body
returns c = rw c.as_slice.ensures at c.other_field.ensures
