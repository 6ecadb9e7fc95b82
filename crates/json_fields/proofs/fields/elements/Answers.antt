use Rattle.std.proofs.Common.{Some, map, option_map, sym, ap, ◌∙◌}
use Rattle.serde_json.specs.View.{view}
use Rattle.json_fields.specs.Fields.{elements, list_of}
use Rattle.json_fields.proofs.JsonViews.{list_of-items_of}
use Rattle.json_fields.proofs.fields.elements.Goals as goal

pub returns-in-Some : goal.returns-in-Some
unfolding elements
returns-in-Some c =
    ap (λ vs. Some (map view vs)) c.as_slice.ensures.value
    ∙ sym (ap (option_map list_of) (sym c.in-Some.ensures) ∙ ap Some (list_of-items_of (map view c.in-Some.items.now.items)))
