use Rattle.std.proofs.Common.{◌++◌, map, ap, ◌∙◌}
use Rattle.cl_types.specs.Ascending.{sorted_set}
use Rattle.cl_types.specs.Text.{text_order}
use Rattle.watch_streams.specs.Names.{object_text}
use Rattle.stream_messages.proofs.Titles.{texts_of_both}
use Rattle.stream_messages.proofs.changes.all_texts.Goals as goal

pub returns : goal.returns
returns c =
    c.in_ok-sorted.ensures.sorted
    ∙ (ap (sorted_set text_order)
    (c.in_ok-push_texts-2.ensures
    ∙ ap (λ ts. ts ++ map object_text c.args.new.now) (c.in_ok-push_texts.ensures ∙ ap (λ ts. ts ++ map object_text c.args.old.now) c.new-texts.ensures.items))
    ∙ texts_of_both c.args.old.now c.args.new.now)
