use Rattle.std.proofs.Common.{◌≡◌, ◌++◌, ◌∙◌, ap, sym}
use Rattle.group_index.specs.Settled.{draft_at}
use Rattle.group_index.proofs.Settling.{drafts_more}
use Rattle.group_index.proofs.Uses.{on_ok}
use Rattle.group_index.proofs.draft.Drafts.draft.Goals as goal

pub returns : goal.returns
returns c =
    on_ok (c.push_draft.new.self.drafts.items ≡ c.args.self.now.drafts.items ++ draft_at c.args.place c.in_ok-draft.draft) _
    (λ pushed first length_is before.
    drafts_more c.args.c.now.cluster first c.args.self.now c.push_draft.new.self c.args.entry.now c.in_ok-draft.draft c.in_ok-draft.ensures.draft c.in_ok-draft.ensures.places
    (pushed ∙ ap (λ i. c.args.self.now.drafts.items ++ draft_at i c.in_ok-draft.draft) (sym length_is))
    (ap (λ changes. changes.items) c.push_draft.ensures.changes ∙ c.in_ok-draft.ensures.changes)
    before)
    c.push_draft.result c.push_draft.ensures.drafts
