use Rattle.std.proofs.Common.{◌≡◌, List, Result, Ok, Err, IfOk, ◌∙◌}
use Rattle.label_select.specs.Group.{Group}
use Rattle.group_index.specs.MemberLaws.{groups_are_with}
use Rattle.group_index.proofs.index.GroupIndex.groups_of.Goals as goal

-- what is answered is one with what it is equal to
answered : {E : Type 0} (r : Result (List Group) E) (a b : List Group) → a ≡ b → IfOk r (λ groups. groups ≡ a) → IfOk r (λ groups. groups ≡ b)
answered (Ok groups) a b same is = is ∙ same
answered (Err e) a b same is = is

pub returns-clause-pods : goal.returns-clause-pods
returns-clause-pods c = λ cluster whole stands.
    answered c.groups_having.result _ _ (groups_are_with cluster whole c.args.pod.now c.args.self.now stands) c.groups_having.ensures
