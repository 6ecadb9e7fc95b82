use Rattle.std.proofs.Common.{List, ℕ, ap, sym, ◌∙◌}
use Rattle.std.specs.Ordering.{ordering_reverse}
use Rattle.cl_types.specs.Text.{text_order, text_order_total}
use Rattle.label_select.specs.Written.{group_text}
use Rattle.group_index.specs.Index.{entry_text}
use Rattle.group_index.proofs.entry.order_at.Goals as goal

pub returns : goal.returns
returns c =
    let sought = group_text c.args.g.now in
    c.reverse.ensures
    ∙ (ap ordering_reverse c.compare_group.ensures
    ∙ (ap (λ (t : List ℕ). ordering_reverse (text_order sought t)) (c.e.invariant.text_is ∙ ap entry_text c.e.view_is)
    ∙ sym (text_order_total.antisymm (entry_text c.args.e.now) sought)))
