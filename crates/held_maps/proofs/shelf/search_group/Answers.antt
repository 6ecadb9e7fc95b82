use Rattle.std.proofs.Common.{rules}
use Rattle.std.proofs.lemmas.Fn.{always_returns_same}
use Rattle.cl_types.specs.SearchLaws.{searched}
use Rattle.cl_types.specs.Text.{text_order, text_order_total}
use Rattle.label_select.specs.Written.{group_text}
use Rattle.held_maps.proofs.shelf.search_group.Goals as goal

pub returns-clause-found : goal.returns-clause-found
returns-clause-found c =
    let facts = c.binary_search_by.ensures in
    (searched (λ t. t) text_order_total (group_text c.args.g.now) c.args.titles.now c.requires _ facts.bound
    (facts.position (λ t. text_order t (group_text c.args.g.now)) (always_returns_same _ _ _ (λ a r f called. (search rules, search rules))))).found

pub returns-clause-absent : goal.returns-clause-absent
returns-clause-absent c =
    let facts = c.binary_search_by.ensures in
    (searched (λ t. t) text_order_total (group_text c.args.g.now) c.args.titles.now c.requires _ facts.bound
    (facts.position (λ t. text_order t (group_text c.args.g.now)) (always_returns_same _ _ _ (λ a r f called. (search rules, search rules))))).absent
