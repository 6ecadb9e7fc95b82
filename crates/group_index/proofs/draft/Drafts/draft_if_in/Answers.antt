use Rattle.std.proofs.Common.{◌∙◌, ap, sym}
use Rattle.std.specs.Option.{option_copied}
use Rattle.group_index.specs.Settled.{has_either}
use Rattle.group_index.proofs.Settling.{drafts_same, unconcerned}
use Rattle.group_index.proofs.draft.Drafts.draft_if_in.Goals as goal

pub returns-then-not-has_either : goal.returns-then-not-has_either
returns-then-not-has_either c = λ first length_is before.
    let cluster = c.args.c.now.cluster in
    let has = has_either cluster (option_copied c.args.old) (option_copied c.args.now) in
    drafts_same cluster first c.args.self.now c.args.entry.now
    (unconcerned has c.args.addresses.now cluster c.args.entry.now (ap has (sym c.group.ensures) ∙ (sym c.has_either.ensures ∙ c.if-not-has_either.true)) c.requires) before
