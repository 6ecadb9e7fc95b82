use Rattle.std.proofs.Common.{◌∙◌, ap}
use Rattle.cl_types.specs.EqualityLaws.{is_same-decided}
use Rattle.cl_types.specs.Equality.{is_same}
use Rattle.cluster_objects.specs.Apply.{is_there}
use Rattle.cluster_objects.proofs.kinds.is_there.Goals as goal

-- the test answers for what was found, which stands at the key
pub returns-in-Some : goal.returns-in-Some
returns-in-Some g c =
    is_same-decided g.row.T.coded _ _ _ c.same.ensures ∙ ap (is_there (is_same g.row.T.coded) c.args.item.now) (rw c.key.ensures at c.in-Some.ensures)
