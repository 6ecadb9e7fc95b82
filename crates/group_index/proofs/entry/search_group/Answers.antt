use Rattle.std.proofs.Common.{rules}
use Rattle.std.proofs.lemmas.Fn.{always_returns_same}
use Rattle.cl_types.specs.SearchLaws.{searched}
use Rattle.cl_types.specs.Text.{text_order_total}
use Rattle.label_select.specs.Written.{group_text}
use Rattle.group_index.specs.Index.{at_group, entry_text}
use Rattle.group_index.proofs.entry.search_group.Goals as goal

pub returns-clause-found : goal.returns-clause-found
returns-clause-found c =
    let facts = c.binary_search_by.ensures in
    (searched entry_text text_order_total (group_text c.args.g.now) c.args.entries.now c.requires _ facts.bound
    (facts.position (at_group c.args.g.now) (always_returns_same _ _ _ (λ a r f called. (search rules, search rules))))).found

pub returns-clause-absent : goal.returns-clause-absent
returns-clause-absent c =
    let facts = c.binary_search_by.ensures in
    (searched entry_text text_order_total (group_text c.args.g.now) c.args.entries.now c.requires _ facts.bound
    (facts.position (at_group c.args.g.now) (always_returns_same _ _ _ (λ a r f called. (search rules, search rules))))).absent
