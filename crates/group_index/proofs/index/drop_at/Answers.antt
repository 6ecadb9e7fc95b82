use Rattle.std.proofs.Common.{◌==◌, ◌∙◌, sym, ap, subst, set}
use Rattle.group_index.specs.Index.{IsIndex}
use Rattle.group_index.proofs.Uses.{gone_here, less_here, same_here, kept_ascends, without_use_ascends}
use Rattle.group_index.proofs.index.drop_at.Goals as goal

pub returns-then-is_used_once-clause-entries : goal.returns-then-is_used_once-clause-entries
returns-then-is_used_once-clause-entries c =
    c.remove.ensures.items ∙ gone_here c.args.g.now c.args.entries.now.items c.args.i c.index.result.now c.requires.ascends c.requires.place c.index.ensures (sym c.is_used_once.ensures.once ∙ c.if-is_used_once.true)

pub returns-then-is_used_once-clause-ascends : goal.returns-then-is_used_once-clause-ascends
returns-then-is_used_once-clause-ascends c =
    subst IsIndex (sym (c.remove.ensures.items ∙ gone_here c.args.g.now c.args.entries.now.items c.args.i c.index.result.now c.requires.ascends c.requires.place c.index.ensures (sym c.is_used_once.ensures.once ∙ c.if-is_used_once.true)))
    (without_use_ascends c.args.g.now c.args.entries.now.items c.requires.ascends)

pub returns-clause-entries : goal.returns-clause-entries
returns-clause-entries c =
    ap (set c.args.entries.now.items c.args.i) c.use_less.ensures ∙ less_here c.args.g.now c.args.entries.now.items c.args.i c.index_mut.result.now c.requires.place c.index_mut.ensures.value
    (ap (λ e. e.uses == 1) (same_here c.args.g.now c.args.entries.now.items c.args.i c.index_mut.result.now c.index.result.now c.requires.place c.index_mut.ensures.value c.index.ensures) ∙ (sym c.is_used_once.ensures.once ∙ c.if-is_used_once.false))

pub returns-clause-ascends : goal.returns-clause-ascends
returns-clause-ascends c =
    kept_ascends c.args.g.now c.args.entries.now.items c.args.i c.use_less.new.self c.index_mut.result.now c.requires.place (ap (λ e. e.group) c.use_less.ensures) c.index_mut.ensures.value c.requires.ascends
