use Rattle.std.proofs.Common.{◌++◌, [], unwrap_or, option_copied, ap, ◌∙◌}
use Rattle.watch_streams.specs.Difference.{members_without}
use Rattle.watch_streams.specs.Net.{ascending_members}
use Rattle.watch_streams.proofs.MemberEdits.{either_order}
use Rattle.watch_streams.proofs.member_sets.patched_members.Goals as goal

pub returns : goal.returns
returns c =
    c.remove_all.ensures
    ∙ ap (λ ms. members_without ms c.args.removed.now)
    (c.vec_mut-2.ensures.value
    ∙ (c.in_ok-insert_all.ensures.ok
    ∙ (ap (λ ms. ascending_members (c.args.added ++ ms)) (c.vec_mut.ensures.value ∙ c.in_ok-members.ensures) ∙ either_order c.args.added (unwrap_or (option_copied c.args.old) []))))
