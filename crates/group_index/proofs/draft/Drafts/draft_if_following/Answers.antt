use Rattle.std.proofs.Common.{◌∙◌, sym}
use Rattle.group_index.specs.Settled.{follows_labels}
use Rattle.group_index.proofs.Settling.{drafts_same, unconcerned}
use Rattle.group_index.proofs.draft.Drafts.draft_if_following.Goals as goal

pub returns-then-not-follows_labels : goal.returns-then-not-follows_labels
returns-then-not-follows_labels c = λ first length_is before.
    drafts_same c.args.c.now.cluster first c.args.self.now c.args.entry.now
    (unconcerned follows_labels c.args.addresses.now c.args.c.now.cluster c.args.entry.now (sym c.follows_labels.ensures ∙ c.if-not-follows_labels.true) c.requires) before
