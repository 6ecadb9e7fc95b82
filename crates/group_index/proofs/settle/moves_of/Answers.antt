use Rattle.std.proofs.Common.{◌≡◌, ◌∙◌, List, Result, Ok, Err, IfOk, ap}
use Rattle.group_index.specs.declared.moves.Edit.{Edit}
use Rattle.group_index.specs.declared.moves.Moves.{Moves}
use Rattle.group_index.specs.Members.{MemberData, members_of}
use Rattle.group_index.specs.Settled.{edited_by}
use Rattle.group_index.proofs.Editing.{edited_same}
use Rattle.group_index.proofs.settle.moves_of.Goals as goal

-- moves with edits that lead from the old members to the new ones
lead : {E : Type 0} (r : Result Moves E) (edits : List Edit) (old new : List MemberData) → edited_by edits old ≡ new → IfOk r (λ m. m.edits.items ≡ edits) → IfOk r (λ m. edited_by m.edits.items old ≡ new)
lead (Ok m) edits old new same is = ap (λ es. edited_by es old) is ∙ same
lead (Err e) edits old new same is = is

pub returns-clause-members : goal.returns-clause-members
returns-clause-members c =
    let old = c.args.members.now in
    let new = members_of c.args.c.now.cluster c.args.g.now in
    lead c.of.result c.in_ok-edits.edits.items old new (ap (λ es. edited_by es old) c.in_ok-edits.ensures ∙ edited_same c.args.addresses.now old new c.requires) c.of.ensures.edits
