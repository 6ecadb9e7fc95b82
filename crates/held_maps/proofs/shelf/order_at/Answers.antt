use Rattle.std.proofs.Common.{ap, sym, ◌∙◌}
use Rattle.std.specs.Ordering.{ordering_reverse}
use Rattle.cl_types.specs.Text.{text_order_total}
use Rattle.label_select.specs.Written.{group_text}
use Rattle.held_maps.proofs.shelf.order_at.Goals as goal

pub returns : goal.returns
returns c =
    c.reverse.ensures ∙ (ap ordering_reverse c.compare_group.ensures ∙ sym (text_order_total.antisymm c.args.title.now (group_text c.args.g.now)))
