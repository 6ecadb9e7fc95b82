use Rattle.std.proofs.Common.{Some, option_map, sym, ap, ◌∙◌}
use Rattle.json_fields.specs.Fields.{members, pairs_of}
use Rattle.json_fields.proofs.JsonViews.{pairs_of-members_view}
use Rattle.json_fields.proofs.fields.members.Goals as goal

pub returns-in-Some : goal.returns-in-Some
unfolding members
returns-in-Some c =
    sym (ap (option_map pairs_of) (sym c.in-Some.ensures) ∙ ap Some (pairs_of-members_view c.in-Some.members.now.entries))
