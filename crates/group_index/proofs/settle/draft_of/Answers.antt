use Rattle.std.proofs.Common.{◌≡◌, ◌++◌, ap, sym, ◌∙◌}
use Rattle.group_index.specs.Changes.{group_change}
use Rattle.group_index.specs.Members.{members_of}
use Rattle.group_index.specs.Settled.{picked}
use Rattle.group_index.proofs.Settling.{change_picked, same_picked}
use Rattle.group_index.proofs.Unchanged.{unchanged}
use Rattle.group_index.proofs.settle.draft_of.Goals as goal

pub returns-then-same-clause-draft : goal.returns-then-same-clause-draft
returns-then-same-clause-draft c =
    let old : c.of-old.result ≡ picked c.args.addresses.now c.args.members.now = c.of-old.ensures ∙ (c.in_ok-picked.ensures ∙ ap (picked c.args.addresses.now) c.as_slice.ensures) in
    same_picked c.args.addresses.now c.args.members.now (members_of c.args.c.now.cluster c.args.g.now) c.requires
    (sym old ∙ (c.same.ensures.0 c.if-same.true ∙ (c.of-new.ensures ∙ c.in_ok-picked_now.ensures)))

pub returns-then-same-clause-changes : goal.returns-then-same-clause-changes
returns-then-same-clause-changes c = unchanged c.args.changes.now.items c.args.g.now c.args.members.now (members_of c.args.c.now.cluster c.args.g.now) (returns-then-same-clause-draft c)

pub returns-clause-changes : goal.returns-clause-changes
returns-clause-changes c =
    let old : c.of-old.result ≡ picked c.args.addresses.now c.args.members.now = c.of-old.ensures ∙ (c.in_ok-picked.ensures ∙ ap (picked c.args.addresses.now) c.as_slice.ensures) in
    c.in_ok-push_change.ensures
    ∙ ap (λ changes. c.args.changes.now.items ++ changes)
    (ap (λ ms. group_change c.args.g.now ms c.of-new.result) old
    ∙ (ap (group_change c.args.g.now (picked c.args.addresses.now c.args.members.now)) (c.of-new.ensures ∙ c.in_ok-picked_now.ensures)
    ∙ change_picked c.args.g.now c.args.addresses.now c.args.members.now (members_of c.args.c.now.cluster c.args.g.now) c.requires))
